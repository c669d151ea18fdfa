-- What was written of a part.
use Rattle.std.proofs.Common.{◌≡◌, ℕ, List, [], ◌∷◌, ◌++◌, Option, Some, None, flat_map, refl, sym, ap, ◌∙◌, subst, append_assoc, append-nil}
use Rattle.std.specs.Prelude.{All}
use Rattle.std.specs.Io.KnownBytes.{Appends, Keeps}
use Rattle.std.proofs.lemmas.Grind.{flat_map-append}
use Rattle.std.proofs.lemmas.List.Elements.{All-nil, All-push}
use Rattle.streams.proofs.Flows.{Appends-then}
use Rattle.drills.specs.Drills.{ended}
use Rattle.drills.specs.Lines.{LineTold}
use Rattle.drills.specs.Written.{ReadsBack}
use Rattle.part_keeper.specs.Kept.{PutsLine}

-- a flush keeps what was written
pub flushed : (old mid new : Option (List ℕ)) (bytes : List ℕ) → Appends old mid bytes → Keeps mid new →
    Appends old new bytes
flushed None mid new bytes h k = tt
flushed (Some xs) None new bytes h k = absurd h
flushed (Some xs) (Some ys) None bytes h k = absurd k
flushed (Some xs) (Some ys) (Some zs) bytes h k = k ∙ h

nothing : (old : Option (List ℕ)) → Appends old old []
nothing None = tt
nothing (Some bytes) = sym (append-nil bytes)

-- the lines so far are written or wait
pub record Waits (old new : Option (List ℕ)) (waits : List ℕ) (lines : List LineTold) : Type 0 where
  pub sent : List ℕ
  pub written : Appends old new sent
  pub all : sent ++ waits ≡ flat_map ended lines
  pub reads : All ReadsBack lines

pub none_waits : (old : Option (List ℕ)) → Waits old old [] []
none_waits old = record { sent = []; written = nothing old; all = refl; reads = All-nil ReadsBack }

pub one_waits : {W : Type 0} (contents : W → Option (List ℕ)) (old mid new : W) (waited waits : List ℕ)
    (lines more : List LineTold) (line : LineTold) → Waits (contents old) (contents mid) waited lines →
    PutsLine contents mid new waited waits line → more ≡ lines ++ line ∷ [] →
    Waits (contents old) (contents new) waits more
one_waits contents old mid new waited waits lines more line h k e =
    let one : flat_map ended (line ∷ []) ≡ ended line = append-nil (ended line) in
    let whole : (h.sent ++ k.sent) ++ waits ≡ flat_map ended (lines ++ line ∷ []) =
    append_assoc h.sent k.sent waits ∙ ap (λ l. h.sent ++ l) k.all ∙ sym (append_assoc h.sent waited (ended line))
    ∙ ap (λ l. l ++ ended line) h.all ∙ ap (λ l. flat_map ended lines ++ l) (sym one)
    ∙ sym (flat_map-append ended lines (line ∷ [])) in
    subst (Waits (contents old) (contents new) waits) (sym e) (record {
      sent = h.sent ++ k.sent;
      written = Appends-then (contents old) (contents mid) (contents new) h.sent k.sent h.written k.written;
      all = whole;
      reads = All-push ReadsBack lines line h.reads k.reads;
    })

-- and what waits is written at last
pub all_written : (old mid new : Option (List ℕ)) (waits : List ℕ) (lines : List LineTold) → Waits old mid waits lines →
    Appends mid new waits → Appends old new (flat_map ended lines) × All ReadsBack lines
all_written old mid new waits lines h k =
    (subst (Appends old new) h.all (Appends-then old mid new h.sent waits h.written k), h.reads)

-- a line that waits, and one that is written after those that waited
pub waits_too : {W : Type 0} (contents : W → Option (List ℕ)) (out : W) (waited waits : List ℕ) (line : LineTold) →
    waits ≡ waited ++ ended line → ReadsBack line → PutsLine contents out out waited waits line
waits_too contents out waited waits line is reads =
    record { sent = []; written = nothing (contents out); all = is; reads = reads }

pub written_after : {W : Type 0} (contents : W → Option (List ℕ)) (old mid new : W) (waited waits : List ℕ)
    (line : LineTold) → Appends (contents old) (contents mid) waited → waits ≡ [] →
    Appends (contents mid) (contents new) (ended line) → ReadsBack line → PutsLine contents old new waited waits line
written_after contents old mid new waited waits line first none second reads = record {
  sent = waited ++ ended line;
  written = Appends-then (contents old) (contents mid) (contents new) waited (ended line) first second;
  all = ap (λ l. (waited ++ ended line) ++ l) none ∙ append-nil (waited ++ ended line);
  reads = reads;
}
