-- Lines whose calls are repeated one after the other.
use Rattle.std.proofs.Common.{◌≡◌, ℕ, ◌+◌, ◌≤◌, ◌==◌, Bool, true, false, List, [], ◌∷◌, ◌++◌, length, Option, Some, None, Result, Ok, Err, refl, sym, ap, ◌∙◌, subst, arith, append-nil, append_assoc, length-append, inl, inr, ◌⊎◌}
use Rattle.std.specs.Prelude.{All, IfSome, ◌↔◌}
use Rattle.std.proofs.lemmas.Bool.{cond-false, or_parts}
use Rattle.std.proofs.lemmas.List.{length_push}
use Rattle.std.proofs.lemmas.List.Elements.{All-append, All-cons, All-nil, All-push}
use Rattle.drills.specs.Drills.{in_first, lines_in, newline}
use Rattle.drills.specs.Parts.{ended_in, in_ended}
use Rattle.drills.specs.Reading.{entry_in}
use Rattle.drills.specs.Written.{has_newline}
use Rattle.node_steps.specs.declared.config.Config.{Config}
use Rattle.part_keeper.specs.declared.fault.LineFault.{LineFault}
use Rattle.part_keeper.specs.declared.fault.LineFault.TheVariants as lines
use Rattle.part_keeper.specs.declared.fault.PartFault.{PartFault}
use Rattle.part_keeper.specs.declared.fault.PartFault.TheVariants as parts
use Rattle.part_keeper.specs.declared.repeating.Next.TheVariants.{Line, End, TooLong}
use Rattle.part_keeper.specs.declared.repeating.Repeated.{Repeated}
use Rattle.part_keeper.specs.declared.repeating.TheConstants.{MOST_OF_LINE}
use Rattle.part_keeper.specs.Journals.{AreAllRepeated, AreRepeated, IsFaultOf, IsShort, IsTaken, StopsAt, with_newlines}
use Rattle.part_keeper.specs.Repeated.{IsOtherwise, IsRepeated, at_most, in_line, with_line}
use Rattle.drills.proofs.Cut.{one_line}
use Rattle.drills.proofs.EndedLines.{ended_one}

-- ---- bytes without a newline

none_ended : (xs : List ℕ) → has_newline xs ≡ false → ended_in xs ≡ []
none_ended [] h = refl
none_ended (x ∷ xs) h =
    let parts = or_parts (x == newline) (has_newline xs) h in
    cond-false (x == newline) _ _ parts.0 ∙ ap (in_ended x) (none_ended xs parts.1)

-- the first line of bytes that begin with some of it
record BeginsLine (xs rest : List ℕ) : Type 0 where
  pub more : List ℕ
  pub lines : List (List ℕ)
  pub are : lines_in (xs ++ rest) ≡ (xs ++ more) ∷ lines

begins_one : (x : ℕ) (rest : List ℕ) (lines : List (List ℕ)) → lines_in rest ≡ lines →
    (more : List ℕ) × (after : List (List ℕ)) × (in_first x (lines_in rest) ≡ (x ∷ more) ∷ after)
begins_one x rest [] e = ([], [], ap (in_first x) e)
begins_one x rest (line ∷ lines) e = (line, lines, ap (in_first x) e)

begins_line : (x : ℕ) (xs rest : List ℕ) → has_newline (x ∷ xs) ≡ false → BeginsLine (x ∷ xs) rest
begins_line x [] rest h =
    let other = (or_parts (x == newline) false h).0 in
    let one = begins_one x rest (lines_in rest) refl in
    record { more = one.0; lines = one.1; are = cond-false (x == newline) _ _ other ∙ one.2 }
begins_line x (y ∷ ys) rest h =
    let parts = or_parts (x == newline) (has_newline (y ∷ ys)) h in
    let later = begins_line y ys rest parts.1 in
    record {
      more = later.more;
      lines = later.lines;
      are = cond-false (x == newline) _ _ parts.0 ∙ ap (in_first x) later.are;
    }

one_end : (x : ℕ) (xs : List ℕ) → has_newline (x ∷ xs) ≡ false → lines_in (x ∷ xs) ≡ (x ∷ xs) ∷ []
one_end x [] h = cond-false (x == newline) _ _ (or_parts (x == newline) false h).0
one_end x (y ∷ ys) h =
    let parts = or_parts (x == newline) (has_newline (y ∷ ys)) h in
    cond-false (x == newline) _ _ parts.0 ∙ ap (in_first x) (one_end y ys parts.1)

short_end : (xs : List ℕ) → has_newline xs ≡ false → IsShort xs → All IsShort (lines_in xs)
short_end [] h few = All-nil IsShort
short_end (x ∷ xs) h few =
    subst (All IsShort) (sym (one_end x xs h)) (All-cons IsShort (x ∷ xs) [] few (All-nil IsShort))

-- ---- a read that failed

pub not_failed : {T : Type 0} (r : Result T PartFault) (failed : Bool) (x : T) →
    (r ≡ Err parts.ReadFailed) ↔ (failed ≡ true) → r ≡ Ok x → failed ≡ false
not_failed r false x h e = refl
not_failed r true x h e = absurd (let told = h.1 refl in cc)

-- ---- how many bytes lines have

sized : (lines : List (List ℕ)) (line : List ℕ) →
    length (with_newlines (lines ++ line ∷ [])) ≡ length (with_newlines lines) + (length line + 1)
sized [] line =
    let one = ap length (append-nil (line ++ newline ∷ [])) ∙ length_push line newline in
    omega (arith, one)
sized (x ∷ xs) line =
    let more = sized xs line in
    let one = length-append (x ++ newline ∷ []) (with_newlines (xs ++ line ∷ [])) in
    let all = length-append (x ++ newline ∷ []) (with_newlines xs) in
    omega (arith, more, one, all)

sizes : (b s l : ℕ) → b ≡ at_most s → at_most (at_most (b + l) + 1) ≡ at_most (s + (l + 1))
sizes b s l e = omega (arith, e)

module _ (config : Config) (seed : List ℕ) where
  -- these lines so far, and what is left
  pub record IsSoFar (had has : ℕ) (bytes : List ℕ) (r : Repeated) (left : Option (List ℕ)) : Type 0 where
    pub lines : List (List ℕ)
    pub rest : List ℕ
    pub there : left ≡ Some rest
    pub ended : ended_in bytes ≡ lines ++ ended_in rest
    pub all : lines_in bytes ≡ lines ++ lines_in rest
    pub repeated : AreRepeated config seed had has lines
    pub short : All IsShort lines
    pub calls : r.calls ≡ length lines
    pub size : r.bytes ≡ at_most (length (with_newlines lines))

  pub so_far_none : (had : ℕ) (old : Option (List ℕ)) (r : Repeated) → r.calls ≡ 0 → r.bytes ≡ 0 →
      IfSome old (λ bytes. IsSoFar had had bytes r old)
  so_far_none had None r c b = tt
  so_far_none had (Some bytes) r c b = record {
    lines = [];
    rest = bytes;
    there = refl;
    ended = refl;
    all = refl;
    repeated = refl;
    short = All-nil IsShort;
    calls = c;
    size = b;
  }

  one_more : (had mid has : ℕ) (xs : List (List ℕ)) (line : List ℕ) → AreRepeated config seed had mid xs →
      IsRepeated config seed mid has line → AreRepeated config seed had has (xs ++ line ∷ [])
  one_more had mid has [] line e is = (has, subst (λ n. IsRepeated config seed n has line) e is, refl)
  one_more had mid has (x ∷ xs) line h is = (h.0, h.1, one_more h.0 mid has xs line h.2 is)

  more_at : (had mid has : ℕ) (bytes line : List ℕ) (r next : Repeated) (left new : Option (List ℕ))
      (so : IsSoFar had mid bytes r left) → IsTaken Line line so.rest new →
      IsRepeated config seed mid has line → next ≡ with_line line r → IsSoFar had has bytes next new
  more_at had mid has bytes line r next left new so taken is e = record {
    lines = so.lines ++ line ∷ [];
    rest = taken.0;
    there = taken.1;
    ended = so.ended ∙ ap (λ b. so.lines ++ ended_in b) taken.2
        ∙ ap (λ ls. so.lines ++ ls) (ended_one line taken.0 taken.3)
        ∙ sym (append_assoc so.lines (line ∷ []) (ended_in taken.0));
    all = so.all ∙ ap (λ b. so.lines ++ lines_in b) taken.2 ∙ ap (λ ls. so.lines ++ ls) (one_line line taken.0 taken.3)
        ∙ sym (append_assoc so.lines (line ∷ []) (lines_in taken.0));
    repeated = one_more had mid has so.lines line so.repeated is;
    short = All-push IsShort so.lines line so.short taken.4;
    calls = ap (λ (n : Repeated). n.calls) e ∙ ap (λ n. n + 1) so.calls ∙ sym (length_push so.lines line);
    size = ap (λ (n : Repeated). n.bytes) e ∙ sizes r.bytes (length (with_newlines so.lines)) (length line) so.size
        ∙ ap at_most (sym (sized so.lines line));
  }

  pub so_far_more : (had mid has : ℕ) (old left new : Option (List ℕ)) (line : List ℕ) (r next : Repeated) →
      IfSome old (λ bytes. IsSoFar had mid bytes r left) → IfSome left (λ bytes. IsTaken Line line bytes new) →
      IsRepeated config seed mid has line → next ≡ with_line line r →
      IfSome old (λ bytes. IsSoFar had has bytes next new)
  so_far_more had mid has None left new line r next so taken is e = tt
  so_far_more had mid has (Some bytes) left new line r next so taken is e =
      more_at had mid has bytes line r next left new so
      (subst (λ (o : Option (List ℕ)). IfSome o (λ bytes. IsTaken Line line bytes new)) so.there taken) is e

  pub all_repeated : (had has : ℕ) (old left new : Option (List ℕ)) (line : List ℕ) (r : Repeated) →
      IfSome old (λ bytes. IsSoFar had has bytes r left) → IfSome left (λ bytes. IsTaken End line bytes new) →
      IfSome old (λ bytes. AreAllRepeated config seed had has bytes r)
  all_repeated had has None left new line r so taken = tt
  all_repeated had has (Some bytes) left new line r so taken =
      let end = subst (λ (o : Option (List ℕ)). IfSome o (λ bytes. IsTaken End line bytes new)) so.there taken in
      let those : so.lines ≡ ended_in bytes =
      sym (so.ended ∙ ap (λ ls. so.lines ++ ls) (none_ended so.rest end.0) ∙ append-nil so.lines) in
      record {
        repeated = subst (λ ls. AreRepeated config seed had has ls) those so.repeated;
        calls = so.calls ∙ ap length those;
        size = so.size ∙ ap (λ ls. at_most (length (with_newlines ls))) those;
        short = subst (All IsShort) (sym so.all)
            (All-append IsShort so.lines (lines_in so.rest) so.short (short_end so.rest end.0 end.1));
      }

  -- ---- what the first line is that isn't repeated

  long_at : (had has number : ℕ) (bytes line : List ℕ) (left new : Option (List ℕ)) (r : Repeated)
      (so : IsSoFar had has bytes r left) → IsTaken TooLong line so.rest new → number ≡ r.calls + 2 →
      StopsAt config seed had (lines_in bytes) number (λ line. MOST_OF_LINE ≤ length line)
  long_at had has number bytes [] left new r so long e = absurd (let most = long.3 in omega (arith, most))
  long_at had has number bytes (x ∷ xs) left new r so long e =
      let begins = begins_line x xs long.0 long.2 in
      let most = long.3 in
      record {
        before = so.lines;
        line = (x ∷ xs) ++ begins.more;
        after = begins.lines;
        parts = so.all ∙ ap (λ b. so.lines ++ lines_in b) long.1 ∙ ap (λ ls. so.lines ++ ls) begins.are;
        counted = e ∙ ap (λ n. n + 2) so.calls;
        has = has;
        repeated = so.repeated;
        holds = omega (arith, length-append (x ∷ xs) begins.more, most);
      }

  pub too_long : (had has number : ℕ) (old left new : Option (List ℕ)) (line : List ℕ) (r : Repeated) →
      IfSome old (λ bytes. IsSoFar had has bytes r left) → IfSome left (λ bytes. IsTaken TooLong line bytes new) →
      number ≡ r.calls + 2 → IfSome old (λ bytes. IsFaultOf config seed had bytes (parts.TooLong number))
  too_long had has number None left new line r so taken e = tt
  too_long had has number (Some bytes) left new line r so taken e =
      long_at had has number bytes line left new r so
      (subst (λ (o : Option (List ℕ)). IfSome o (λ bytes. IsTaken TooLong line bytes new)) so.there taken) e

  stops_at : (had has number : ℕ) (bytes line : List ℕ) (left new : Option (List ℕ)) (r : Repeated)
      (fact : List ℕ → Type 0) (so : IsSoFar had has bytes r left) → IsTaken Line line so.rest new →
      number ≡ r.calls + 2 → fact line → StopsAt config seed had (ended_in bytes) number fact
  stops_at had has number bytes line left new r fact so taken e holds = record {
    before = so.lines;
    line = line;
    after = ended_in taken.0;
    parts = so.ended ∙ ap (λ b. so.lines ++ ended_in b) taken.2
        ∙ ap (λ ls. so.lines ++ ls) (ended_one line taken.0 taken.3);
    counted = e ∙ ap (λ n. n + 2) so.calls;
    has = has;
    repeated = so.repeated;
    holds = holds;
  }

  pub fault_at : (had has number : ℕ) (old left new : Option (List ℕ)) (line : List ℕ) (r : Repeated)
      (fault : LineFault) → IfSome old (λ bytes. IsSoFar had has bytes r left) →
      IfSome left (λ bytes. IsTaken Line line bytes new) → number ≡ r.calls + 2 →
      (fault ≡ lines.NoCall → entry_in line ≡ None) → (fault ≡ lines.Differs → IsOtherwise config seed line) →
      IfSome old (λ bytes. IsFaultOf config seed had bytes (in_line fault number))
  fault_at had has number None left new line r fault so taken e no_call differs = tt
  fault_at had has number (Some bytes) left new line r fault so taken e no_call differs = of fault no_call differs
    where
      found : IsTaken Line line so.rest new
      found = subst (λ (o : Option (List ℕ)). IfSome o (λ bytes. IsTaken Line line bytes new)) so.there taken

      of : (f : LineFault) → (f ≡ lines.NoCall → entry_in line ≡ None) →
          (f ≡ lines.Differs → IsOtherwise config seed line) → IsFaultOf config seed had bytes (in_line f number)
      of lines.NoCall no_call differs =
          stops_at had has number bytes line left new r (λ line. entry_in line ≡ None) so found e (no_call refl)
      of lines.Differs no_call differs =
          stops_at had has number bytes line left new r (IsOtherwise config seed) so found e (differs refl)
      of lines.OutOfMemory no_call differs = tt

  -- errors that no line has
  pub other_fault : (had : ℕ) (old : Option (List ℕ)) (fault : PartFault) →
      (fault ≡ parts.ReadFailed) ⊎ (fault ≡ parts.OutOfMemory) →
      IfSome old (λ bytes. IsFaultOf config seed had bytes fault)
  other_fault had None fault h = tt
  other_fault had (Some bytes) fault (inl e) =
      subst (λ (f : PartFault). IsFaultOf config seed had bytes f) (sym e) tt
  other_fault had (Some bytes) fault (inr e) =
      subst (λ (f : PartFault). IsFaultOf config seed had bytes f) (sym e) tt
