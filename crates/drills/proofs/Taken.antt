-- Lines that are taken of a reader, one by one.
use Rattle.std.proofs.Common.{◌≡◌, ℕ, ◌+◌, ◌<◌, Bool, true, false, List, [], ◌∷◌, length, Option, Some, None, Result, Ok, Err, refl, sym, ap, ◌∙◌, subst, arith}
use Rattle.std.specs.Prelude.{IfOk, IfSome, ok_or, option_map, ◌↔◌}
use Rattle.std.specs.Io.BufRead.{drop_through, strip_last, take_through}
use Rattle.drills.specs.Drills.{DrillTold, SoFarTold, after_text, drill_from, drill_in, drill_of, drill_so_far, lines_in, or_line, so_far_of, ◌>>=◌}
use Rattle.drills.specs.declared.so_far.SoFar.{SoFar}
use Rattle.drills.specs.declared.fault.DrillFault.{DrillFault}
use Rattle.drills.specs.declared.fault.DrillFault.TheVariants.{BadLine, ReadFailed}
use Rattle.drills.specs.declared.drill.Drill.{Drill}
use Rattle.drills.specs.Grammar.{IsDrill, IsFirstBad}
use Rattle.drills.specs.Taken.{IsFirst}
use Rattle.drills.proofs.Cut.{first_line}
use Rattle.drills.proofs.Grammars.{drill_read, line_bad}

-- the bytes up to the first newline, without it
pub taken : (old new : Option (List ℕ)) (bytes line : List ℕ) → IfSome old (λ xs. bytes ≡ take_through 10 xs) →
    IfSome old (λ xs. new ≡ Some (drop_through 10 xs))
    → 0 < length bytes → line ≡ strip_last 10 bytes → IfSome old (λ xs. IsFirst true line xs new)
taken None new bytes line b r some l = tt
taken (Some []) new bytes line b r some l =
    let none = ap length b in
    absurd (omega (arith, none, some))
taken (Some (x ∷ xs)) new bytes line b r some l = (
  drop_through 10 (x ∷ xs),
  r,
  first_line x xs ∙ ap (λ first. first ∷ lines_in (drop_through 10 (x ∷ xs)))
      (sym (l ∙ ap (strip_last 10) b)),
)

-- what is left goes on from what was read so far, and comes to what all bytes are
abbrev pub GoesOn : Option SoFarTold → ℕ → List ℕ → Option (List ℕ) → Type 0
GoesOn d number bytes left = (rest : List ℕ) × (left ≡ Some rest) ×
    (drill_from d number (lines_in rest) ≡ drill_in bytes)

abbrev pub IfGoesOn : Option SoFarTold → ℕ → Option (List ℕ) → Option (List ℕ) → Type 0
IfGoesOn d number old left = IfSome old (λ bytes. GoesOn d number bytes left)

pub at_first : (old : Option (List ℕ)) → IfGoesOn None 1 old old
unfolding drill_in
at_first None = tt
at_first (Some bytes) = (bytes, refl, refl)

-- a line that stands in its place
pub one_more : (d : Option SoFarTold) (next : SoFarTold) (number : ℕ) (old mid new : Option (List ℕ)) (line : List ℕ) →
    IfGoesOn d number old mid
    → IfSome mid (λ xs. IsFirst true line xs new) → after_text d line ≡ Some next →
    IfGoesOn (Some next) (number + 1) old new
one_more d next number None mid new line h first e = tt
one_more d next number (Some bytes) mid new line h first e =
    let found : IsFirst true line h.0 new = rw h.1 at first in (
      found.0,
      found.1,
      sym (ap (λ o. or_line number o >>= (λ after. drill_from (Some after) (number + 1) (lines_in found.0))) e) ∙
          ap (drill_from d number) (sym found.2) ∙ h.2,
    )

-- a line that doesn't, or can't be read
pub bad_line : (d : Option SoFarTold) (number : ℕ) (old mid new : Option (List ℕ)) (line : List ℕ) →
    IfGoesOn d number old mid
    → IfSome mid (λ xs. IsFirst true line xs new) → after_text d line ≡ None →
    IfSome old (λ bytes. drill_in bytes ≡ Err number)
bad_line d number None mid new line h first e = tt
bad_line d number (Some bytes) mid new line h first e =
    let found : IsFirst true line h.0 new = rw h.1 at first in
    sym h.2 ∙ ap (drill_from d number) found.2 ∙ ap (λ o. or_line number o >>=
    (λ after. drill_from (Some after) (number + 1) (lines_in found.0))) e

-- no line is left
pub at_end : (d : Option SoFarTold) (number : ℕ) (old mid new : Option (List ℕ)) (line : List ℕ) →
    IfGoesOn d number old mid
    → IfSome mid (λ xs. IsFirst false line xs new)
    → IfSome old (λ bytes. drill_in bytes ≡ or_line number (option_map drill_so_far d))
at_end d number None mid new line h last = tt
at_end d number (Some bytes) mid new line h last =
    let none : h.0 ≡ [] = rw h.1 at last in
    sym h.2 ∙ ap (λ xs. drill_from d number (lines_in xs)) none

-- ---- a read that failed

-- what was answered otherwise, where each failure is told
pub not_failed : {T : Type 0} (r : Result T DrillFault) (failed : Bool) (x : T) →
    (r ≡ Err ReadFailed) ↔ (failed ≡ true) → r ≡ Ok x → failed ≡ false
not_failed r false x h e = refl
not_failed r true x h e = absurd (let told = h.1 refl in cc)

-- another answer, where none failed
pub told_so : {T : Type 0} (r : Result T DrillFault) (failed : Bool) → (r ≡ Err ReadFailed → ⊥) → failed ≡ false →
    (r ≡ Err ReadFailed) ↔ (failed ≡ true)
told_so r failed other none = (λ e. absurd (other e), λ e. absurd (let both = sym none ∙ e in cc))

-- ---- the drill, and the first bad line

pub is_drill : (old : Option (List ℕ)) (d : DrillTold) → IfSome old (λ bytes. drill_in bytes ≡ Ok d) →
    IfSome old (λ bytes. IsDrill bytes d)
is_drill None d h = tt
is_drill (Some bytes) d h = drill_read bytes d h

pub is_first_bad : (old : Option (List ℕ)) (number : ℕ) → IfSome old (λ bytes. drill_in bytes ≡ Err number) →
    IfSome old (λ bytes. IsFirstBad (lines_in bytes) number)
is_first_bad None number h = tt
is_first_bad (Some bytes) number h = line_bad bytes number h

-- of the end of the lines: what was read so far, or the line behind it
pub as_drill : (old : Option (List ℕ)) (s : Option SoFar) (drill : Option Drill) (number : ℕ) →
    drill ≡ option_map (λ (s : SoFar). s.drill) s
    → IfSome old (λ bytes. drill_in bytes ≡ or_line number (option_map drill_so_far (option_map so_far_of s)))
    → IfSome old (λ bytes. drill_in bytes ≡ or_line number (option_map drill_of drill))
as_drill old None drill number e h = rw e h
as_drill old (Some s) drill number e h = rw e h

pub ends_drill : (old : Option (List ℕ)) (drill : Option Drill) (number : ℕ) (r : Result Drill DrillFault) →
    r ≡ ok_or drill (BadLine number)
    → IfSome old (λ bytes. drill_in bytes ≡ or_line number (option_map drill_of drill)) →
    IfOk r (λ d. IfSome old (λ bytes. IsDrill bytes (drill_of d)))
ends_drill old None number (Ok d) e h = absurd cc
ends_drill old None number (Err fault) e h = tt
ends_drill old (Some d) number (Err fault) e h = absurd cc
ends_drill old (Some d) number (Ok other) e h =
    let same : d ≡ other = cc in
    subst (λ (d : Drill). IfSome old (λ bytes. IsDrill bytes (drill_of d))) same (is_drill old (drill_of d) h)

pub ends_bad : (old : Option (List ℕ)) (drill : Option Drill) (number : ℕ) (r : Result Drill DrillFault) →
    r ≡ ok_or drill (BadLine number)
    → IfSome old (λ bytes. drill_in bytes ≡ or_line number (option_map drill_of drill)) → (line : ℕ) →
    r ≡ Err (BadLine line)
    → IfSome old (λ bytes. IsFirstBad (lines_in bytes) line)
ends_bad old None number r e h line bad =
    let told : ◌≡◌ {A = Result Drill DrillFault} (Err (BadLine number)) (Err (BadLine line)) = sym e ∙ bad in
    let same : number ≡ line = cc in
    subst (λ (n : ℕ). IfSome old (λ bytes. IsFirstBad (lines_in bytes) n)) same (is_first_bad old number h)
ends_bad old (Some d) number r e h line bad =
    absurd (let told : ◌≡◌ {A = Result Drill DrillFault} (Ok d) (Err (BadLine line)) = sym e ∙ bad in cc)

-- the same of the function of the bytes
pub ends_whole : (old : Option (List ℕ)) (drill : Option Drill) (number : ℕ) (r : Result Drill DrillFault) →
    r ≡ ok_or drill (BadLine number)
    → IfSome old (λ bytes. drill_in bytes ≡ or_line number (option_map drill_of drill)) →
    IfOk r (λ d. IfSome old (λ bytes. drill_in bytes ≡ Ok (drill_of d)))
ends_whole old None number (Ok d) e h = absurd cc
ends_whole old None number (Err fault) e h = tt
ends_whole old (Some d) number (Err fault) e h = absurd cc
ends_whole old (Some d) number (Ok other) e h =
    let same : d ≡ other = cc in
    subst (λ (d : Drill). IfSome old (λ bytes. drill_in bytes ≡ Ok (drill_of d))) same h

pub ends_bad_line : (old : Option (List ℕ)) (drill : Option Drill) (number : ℕ) (r : Result Drill DrillFault) →
    r ≡ ok_or drill (BadLine number)
    → IfSome old (λ bytes. drill_in bytes ≡ or_line number (option_map drill_of drill)) → (line : ℕ) →
    r ≡ Err (BadLine line)
    → IfSome old (λ bytes. drill_in bytes ≡ Err line)
ends_bad_line old None number r e h line bad =
    let told : ◌≡◌ {A = Result Drill DrillFault} (Err (BadLine number)) (Err (BadLine line)) = sym e ∙ bad in
    let same : number ≡ line = cc in
    subst (λ (n : ℕ). IfSome old (λ bytes. drill_in bytes ≡ Err n)) same h
ends_bad_line old (Some d) number r e h line bad =
    absurd (let told : ◌≡◌ {A = Result Drill DrillFault} (Ok d) (Err (BadLine line)) = sym e ∙ bad in cc)
