-- What stands in a journal's file once its node is resumed.
use Rattle.std.proofs.Common.{◌≡◌, ℕ, suc, ◌+◌, ◌-◌, ◌<◌, ◌≤◌, ◌==◌, ◌^◌, min, Bool, true, false, List, [], ◌∷◌, ◌++◌, length, take, drop, cond, Option, Some, None, Result, Ok, Err, refl, sym, ap, ◌∙◌, subst, arith, append-nil, append_assoc, length-append, inl, inr, ◌⊎◌}
use Rattle.std.specs.Prelude.{IfSome, IsErr, OnOk, nat_le}
use Rattle.std.proofs.lemmas.Bool.Decides.{leb_tells}
use Rattle.std.specs.declared.alloc.Global.{Global}
use Rattle.std.specs.declared.io.buffered.BufReader.{BufReader}
use Rattle.std.specs.Io.Buffered.{reader_buffer, reader_capacity, reader_inner}
use Rattle.std.specs.Io.KnownBytes.{Appends, Keeps, prepend_known}
use Rattle.std.proofs.KnownBytes.{prepend_known-nil}
use Rattle.streams.specs.declared.watched.Watched.{Watched}
use Rattle.streams.specs.Watched.{inner_of}
use Rattle.std.proofs.lemmas.Bool.{cases_Bool, cond-false, cond-true, eqb-true}
use Rattle.std.proofs.lemmas.List.{length-take}
use Rattle.drills.specs.Drills.{newline}
use Rattle.drills.specs.Parts.{ended_in, in_ended}
use Rattle.node_steps.specs.declared.config.Config.{Config}
use Rattle.drills.specs.Taken.{bytes_left}
use Rattle.part_keeper.specs.declared.fault.PartFault.{PartFault}
use Rattle.part_files.specs.declared.part_file.OpenFault.{OpenFault}
use Rattle.part_files.specs.declared.part_file.OpenFault.TheVariants as open_faults
use Rattle.part_keeper.specs.declared.repeating.Repeated.{Repeated}
use Rattle.part_keeper.specs.Repeated.{at_most}
use Rattle.part_keeper.specs.Journals.{AreAllRepeated, IsFaultOf, with_newlines}
use Rattle.part_files.specs.Opened.{BeginsWith, Cuts, HasJournal, IsOpenFault, IsOtherHead, IsResumeFault, IsResumed, MakesReady, end_of}

-- a file that is emptied has what is appended to it then
pub begun : (old cut new : Option (List ℕ)) (first : List ℕ) → Cuts old cut 0 → Appends cut new first →
    IfSome old (λ _. new ≡ Some first)
begun None cut new first emptied more = tt
begun (Some bytes) cut new first emptied more = at cut new (emptied (omega arith)) more
  where
    at : (cut new : Option (List ℕ)) → cut ≡ Some [] → Appends cut new first → new ≡ Some first
    at None new e more = absurd (let no = e in cc)
    at (Some none) None e more = absurd more
    at (Some none) (Some all) e more =
        let empty : none ≡ [] = cc in
        ap Some (more ∙ ap (λ l. l ++ first) empty)

pub begun_kept : (old cut new kept : Option (List ℕ)) (first : List ℕ) → Cuts old cut 0 → Appends cut new first →
    Keeps new kept → IfSome old (λ _. kept ≡ Some first)
begun_kept None cut new kept first emptied more same = tt
begun_kept (Some bytes) cut new kept first emptied more same =
    at new kept (begun (Some bytes) cut new first emptied more) same
  where
    at : (new kept : Option (List ℕ)) → new ≡ Some first → Keeps new kept → kept ≡ Some first
    at None kept e same = absurd (let no = e in cc)
    at (Some all) None e same = absurd same
    at (Some all) (Some others) e same =
        let whole : all ≡ first = cc in
        ap Some (same ∙ whole)

not_err : false ≡ true → ⊥
not_err same = cc

-- a cut that was made is at a place that a file can have
pub cut_made : {T E : Type 0} (r : Result T E) (old new : Option (List ℕ)) (len end : ℕ) → len ≡ end →
    OnOk r (Cuts old new len) → (2 ^ 63 ≤ len → IsErr r) → OnOk r (Cuts old new end × (end < 2 ^ 63))
cut_made (Err error) old new len end same cut limit = tt
cut_made (Ok done) old new len end same cut limit =
    (subst (λ n. Cuts old new n) same cut, at (leb_tells (2 ^ 63) end))
  where
    at : ((nat_le (2 ^ 63) end ≡ true) × (2 ^ 63 ≤ end)) ⊎ ((nat_le (2 ^ 63) end ≡ false) × (end < 2 ^ 63)) → end < 2 ^ 63
    at (inl more) = absurd (not_err (limit (let most = more.1 in omega (arith, same, most))))
    at (inr less) = less.1

-- the whole lines of bytes are the first of them
one_whole : (byte : ℕ) (rest : List ℕ) (lines : List (List ℕ)) →
    take (length (with_newlines lines)) rest ≡ with_newlines lines →
    take (length (with_newlines (in_ended byte lines))) (byte ∷ rest) ≡ with_newlines (in_ended byte lines)
one_whole byte rest [] e = refl
one_whole byte rest (line ∷ lines) e = ap (λ l. byte ∷ l) e

all_whole : (bytes : List ℕ) → take (length (with_newlines (ended_in bytes))) bytes ≡ with_newlines (ended_in bytes)
all_whole [] = refl
all_whole (byte ∷ bytes) = at (cases_Bool (byte == newline)) (all_whole bytes)
  where
    at : ((byte == newline) ≡ true) ⊎ ((byte == newline) ≡ false) →
        take (length (with_newlines (ended_in bytes))) bytes ≡ with_newlines (ended_in bytes) →
        take (length (with_newlines (ended_in (byte ∷ bytes)))) (byte ∷ bytes) ≡ with_newlines (ended_in (byte ∷ bytes))
    at (inl newly) rest =
        subst (λ (ls : List (List ℕ)). take (length (with_newlines ls)) (byte ∷ bytes) ≡ with_newlines ls)
        (sym (cond-true (byte == newline) ([] ∷ ended_in bytes) (in_ended byte (ended_in bytes)) newly))
        (ap (λ b. b ∷ take (length (with_newlines (ended_in bytes))) bytes) (eqb-true byte 10 newly)
        ∙ ap (λ l. newline ∷ l) rest)
    at (inr other) rest =
        subst (λ (ls : List (List ℕ)). take (length (with_newlines ls)) (byte ∷ bytes) ≡ with_newlines ls)
        (sym (cond-false (byte == newline) ([] ∷ ended_in bytes) (in_ended byte (ended_in bytes)) other))
        (one_whole byte bytes (ended_in bytes) rest)

sizes_whole : (bytes : List ℕ) → length (with_newlines (ended_in bytes)) ≤ length bytes
sizes_whole bytes =
    let size = ap length (sym (all_whole bytes)) ∙ length-take (length (with_newlines (ended_in bytes))) bytes in
    omega (arith, size)

take_both : (first rest : List ℕ) (n : ℕ) → take (length first + n) (first ++ rest) ≡ first ++ take n rest
take_both [] rest n = ap (λ k. take k rest) (let same : 0 + n ≡ n = omega arith in same)
take_both (x ∷ first) rest n =
    let one : length (x ∷ first) + n ≡ suc (length first + n) = omega arith in
    ap (λ k. take k (x ∷ (first ++ rest))) one ∙ ap (λ l. x ∷ l) (take_both first rest n)

-- what a new reader has to give
pub fresh : {I : Type 0} (remaining : I → Option (List ℕ)) (reader : BufReader (Watched I) Global) (input : I) →
    reader_capacity reader ≡ 8192 → reader_buffer reader ≡ [] → inner_of (reader_inner reader) ≡ input →
    bytes_left remaining reader ≡ remaining input
fresh remaining reader input room none inner =
    ap (λ n. cond (n == 0) None (prepend_known (reader_buffer reader) (remaining (inner_of (reader_inner reader))))) room
    ∙ ap (λ b. prepend_known b (remaining (inner_of (reader_inner reader)))) none
    ∙ prepend_known-nil (remaining (inner_of (reader_inner reader))) ∙ ap remaining inner

module _ (config : Config) (seed : List ℕ) (had has : ℕ) (first : List ℕ) where
  -- ---- what the node has of a journal

  pub goes_on : (old mid : Option (List ℕ)) (r : Repeated) → IfSome old (λ bytes. BeginsWith true first bytes mid) →
      IfSome mid (λ rest. AreAllRepeated config seed had has rest r) →
      IfSome old (λ bytes. HasJournal config seed had has first bytes (Some r))
  goes_on None mid r begun all = tt
  goes_on (Some bytes) mid r begun all = (
    begun.0,
    begun.2,
    subst (λ (o : Option (List ℕ)). IfSome o (λ rest. AreAllRepeated config seed had has rest r)) begun.1 all,
  )

  pub goes_wrong : (old mid : Option (List ℕ)) (fault : PartFault) →
      IfSome old (λ bytes. BeginsWith true first bytes mid) →
      IfSome mid (λ rest. IsFaultOf config seed had rest fault) →
      IfSome old (λ bytes. IsOpenFault config seed had first bytes (open_faults.Lines fault))
  goes_wrong None mid fault begun bad = tt
  goes_wrong (Some bytes) mid fault begun bad = inr (
    begun.0,
    begun.2,
    subst (λ (o : Option (List ℕ)). IfSome o (λ rest. IsFaultOf config seed had rest fault)) begun.1 bad,
  )

  pub begins_other : (old : Option (List ℕ)) (fault : OpenFault) → IfSome old (λ bytes. IsOtherHead first bytes fault) →
      IfSome old (λ bytes. IsOpenFault config seed had first bytes fault)
  begins_other None fault h = tt
  begins_other (Some bytes) (open_faults.OtherHead told) h = h
  begins_other (Some bytes) (open_faults.Lines fault) h = inl h
  begins_other (Some bytes) (open_faults.CantOpen error) h = absurd h
  begins_other (Some bytes) open_faults.NoFile h = absurd h
  begins_other (Some bytes) open_faults.InUse h = absurd h
  begins_other (Some bytes) (open_faults.NotBegun error) h = absurd h

  pub not_resumed : (old : Option (List ℕ)) (fault : OpenFault) →
      IfSome old (λ bytes. IsOpenFault config seed had first bytes fault) →
      IfSome old (λ bytes. IsResumeFault config seed had first bytes fault)
  not_resumed None fault h = tt
  not_resumed (Some bytes) (open_faults.OtherHead told) h = h
  not_resumed (Some bytes) (open_faults.Lines fault) h = h
  not_resumed (Some bytes) (open_faults.CantOpen error) h = absurd h
  not_resumed (Some bytes) open_faults.NoFile h = absurd h
  not_resumed (Some bytes) open_faults.InUse h = absurd h
  not_resumed (Some bytes) (open_faults.NotBegun error) h = tt

  -- ---- what its file has then

  whole_left : (rest bytes : List ℕ) (r : Repeated) (file new : Option (List ℕ)) → bytes ≡ first ++ rest →
      r.bytes ≡ at_most (length (with_newlines (ended_in rest))) → file ≡ Some bytes → MakesReady first (Some r) file new →
      new ≡ Some (first ++ with_newlines (ended_in rest))
  whole_left rest bytes r file new e size there ready =
      let cuts : Cuts (Some bytes) new (end_of r first) = subst (λ (o : Option (List ℕ)). Cuts o new (end_of r first)) there ready.0 in
      let few = ready.1 in
      let all = sizes_whole rest in
      let sum = ap length e ∙ length-append first rest in
      let end : end_of r first ≡ length first + length (with_newlines (ended_in rest)) = omega (arith, size, few) in
      cuts (omega (arith, end, all, sum))
      ∙ ap Some (ap (λ n. take n bytes) end ∙ ap (take (length first + length (with_newlines (ended_in rest)))) e
      ∙ take_both first rest (length (with_newlines (ended_in rest))) ∙ ap (λ l. first ++ l) (all_whole rest))

  pub resumed : (known file new : Option (List ℕ)) (got : Option Repeated) → file ≡ known →
      IfSome known (λ bytes. HasJournal config seed had has first bytes got) → MakesReady first got file new →
      IfSome known (λ bytes. IsResumed config seed had has first bytes got new)
  resumed None file new got same journal ready = tt
  resumed (Some bytes) file new None same journal ready =
      let first_left = subst (λ (o : Option (List ℕ)). MakesReady first None o new) same ready in
      (journal.0, journal.1, first_left)
  resumed (Some bytes) file new (Some r) same journal ready =
      (journal.0, journal.1, journal.2, whole_left journal.0 bytes r file new journal.1 journal.2.size same ready)
