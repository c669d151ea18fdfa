-- Copies of keys are equal keys.
use Rattle.std.proofs.Common.{◌≡◌, ℕ, List, Result, Ok, Err, IfOk, ap, ◌∙◌}
use Rattle.std.proofs.lemmas.Cmp.{nat_list_cmp_total, tied_itself}
use Rattle.std.specs.Ordering.{nat_cmp}
use Rattle.std.specs.Cmp.Lexicographic.{slice_cmp}
use Rattle.std.specs.declared.cmp.Ordering.TheVariants.{Equal}

-- what is ordered by the rank of its value is equal to a copy of that value
pub copy_ties : {T V E : Type 0} (value : T → V) (rank : V → List ℕ) (r : Result T E) (x : T)
    → IfOk r (λ y. value y ≡ value x) → IfOk r (λ y. slice_cmp nat_cmp (rank (value y)) (rank (value x)) ≡ Equal)
copy_ties value rank (Ok y) x same = ap (λ v. slice_cmp nat_cmp (rank v) (rank (value x))) same ∙
    tied_itself nat_list_cmp_total (rank (value x))
copy_ties value rank (Err e) x same = same
