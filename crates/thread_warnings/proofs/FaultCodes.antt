-- The codes of faults, and how many calls were refused with each.
use Rattle.std.proofs.Common.{◌≡◌, ◌∙◌, ℕ, ◌+◌, List, [], ◌∷◌, ap, cond, length, refl, sym, arith}
use Rattle.std.specs.Prelude.{All, count_by}
use Rattle.std.specs.List.{range_with_len, sum_by}
use Rattle.std.proofs.lemmas.List.Elements.{All-cons, All-nil}
use Rattle.std.proofs.lemmas.List.Sums.{sum_by-cons}
use Rattle.node_calls.proofs.FaultCodes.{coded}
use Rattle.node_calls.specs.FaultCodes.{IsCoded, codes_end}
use Rattle.node_calls.specs.declared.fault.NodeFault.{NodeFault}
use Rattle.node_calls.specs.declared.fault.NodeFault.TheVariants as faults
use Rattle.thread_warnings.specs.RefusedCalls.{has_code}

-- one number below the end is the code of a fault
one_code : (fault : NodeFault) → sum_by (λ code. cond (has_code code fault) 1 0) (range_with_len 0 codes_end) ≡ 1
one_code faults.TraceFull = refl
one_code faults.BadName = refl
one_code (faults.BadActions fault) = refl
one_code faults.TooManyPoints = refl
one_code faults.ClockFull = refl
one_code faults.NotSet = refl
one_code faults.NoSuchTerm = refl
one_code faults.NotCounted = refl
one_code faults.BadNode = refl
one_code faults.ZeroAmount = refl
one_code (faults.TooFewRights have) = refl
one_code faults.CellFull = refl
one_code (faults.BadWords need) = refl
one_code (faults.BadMessage fault) = refl
one_code faults.NotForMe = refl
one_code faults.OwnAhead = refl
one_code faults.AckAhead = refl
one_code faults.Overspent = refl
one_code faults.BadConfig = refl
one_code faults.OutOfMemory = refl

between : (a b c d : ℕ) → a + b + (c + d) ≡ a + c + (b + d)
between a b c d = omega arith

longer : (f : NodeFault) (fs : List NodeFault) → 1 + length fs ≡ length (f ∷ fs)
longer f fs = omega arith

-- a call more is counted where its fault has the code
one_more : (f : NodeFault) (fs : List NodeFault) (ns : List ℕ) → sum_by (λ code. count_by (has_code code) (f ∷ fs)) ns
    ≡ sum_by (λ code. cond (has_code code f) 1 0) ns + sum_by (λ code. count_by (has_code code) fs) ns
one_more f fs [] = refl
one_more f fs (n ∷ ns) =
    let all : sum_by (λ code. count_by (has_code code) (f ∷ fs)) (n ∷ ns) ≡ count_by (has_code n) (f ∷ fs) +
    sum_by (λ code. count_by (has_code code) (f ∷ fs)) ns =
    sum_by-cons (λ code. count_by (has_code code) (f ∷ fs)) n ns in
    let this : sum_by (λ code. cond (has_code code f) 1 0) (n ∷ ns) ≡ cond (has_code n f) 1 0 +
    sum_by (λ code. cond (has_code code f) 1 0) ns = sum_by-cons (λ code. cond (has_code code f) 1 0) n ns in
    let others : sum_by (λ code. count_by (has_code code) fs) (n ∷ ns) ≡ count_by (has_code n) fs +
    sum_by (λ code. count_by (has_code code) fs) ns = sum_by-cons (λ code. count_by (has_code code) fs) n ns in
    let here : count_by (has_code n) (f ∷ fs) ≡ cond (has_code n f) 1 0 + count_by (has_code n) fs =
    sum_by-cons (λ x. cond (has_code n x) 1 0) f fs in
    all ∙ ap (λ k. k + sum_by (λ code. count_by (has_code code) (f ∷ fs)) ns) here
    ∙ ap (λ k. cond (has_code n f) 1 0 + count_by (has_code n) fs + k) (one_more f fs ns)
    ∙ between (cond (has_code n f) 1 0) (count_by (has_code n) fs) _ _
    ∙ sym (ap (λ k. k + sum_by (λ code. count_by (has_code code) fs) (n ∷ ns)) this
    ∙ ap (λ k. cond (has_code n f) 1 0 + sum_by (λ code. cond (has_code code f) 1 0) ns + k) others)

none : (ns : List ℕ) → sum_by (λ code. count_by (has_code code) []) ns ≡ 0
none [] = refl
none (n ∷ ns) = none ns

pub each_counted : (refused : List NodeFault) →
    sum_by (λ code. count_by (has_code code) refused) (range_with_len 0 codes_end) ≡ length refused
each_counted [] = none (range_with_len 0 codes_end)
each_counted (f ∷ fs) =
    let all = range_with_len 0 codes_end in
    one_more f fs all ∙ ap (λ k. k + sum_by (λ code. count_by (has_code code) fs) all) (one_code f)
    ∙ ap (λ k. 1 + k) (each_counted fs) ∙ longer f fs

pub each_coded : (refused : List NodeFault) → All IsCoded refused
each_coded [] = All-nil IsCoded
each_coded (f ∷ fs) = All-cons IsCoded f fs (coded f) (each_coded fs)
