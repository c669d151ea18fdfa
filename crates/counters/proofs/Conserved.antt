-- What is shifted from one node comes to another, so that it leaves the sum of the rights.
use Rattle.std.proofs.Common.{◌≡◌, ℕ, ◌+◌, ◌==◌, zero, suc, Bool, true, false, cond, refl, sym, ◌∙◌, arith}
use Rattle.std.proofs.lemmas.Bool.{eqb-true, eqb-false}
use Rattle.std.proofs.lemmas.Int.{ints}
use Rattle.std.specs.Prelude.{pos, ◌+ℤ◌, ◌-ℤ◌}
use Rattle.counters.specs.Sums.{node_numbers, sum_below, sum_others, int_sum_below}
use Rattle.counters.specs.Budgets.{given_to, gone_from, granted_by, total_spent, RemainingAndSpentAddUp}
use Rattle.counters.proofs.SumLemmas.{sum-same, sum-add, sum-at, sum-swap}

-- a sum of differences
int_sum-differences : (n : ℕ) (f g : ℕ → ℕ) → int_sum_below n (λ i. pos (f i) -ℤ pos (g i)) ≡ pos (sum_below n f) -ℤ pos
    (sum_below n g)
int_sum-differences zero f g = refl
int_sum-differences (suc n) f g =
    let rest = int_sum-differences n f g in
    omega (arith, ints)

-- what node i shifts to j comes from i at j
pub from_to : (n : ℕ) (s : ℕ → ℕ → ℕ) → sum_below n (λ i. sum_others n i (λ j. s i j)) ≡ sum_below n
    (λ i. sum_others n i (λ j. s j i))
from_to n s =
    sum-swap n n (λ i j. cond (j == i) 0 (s i j)) ∙
    sum-same n _ _ (λ j below. sum-same n _ _ (λ i here. either i j (j == i) (i == j) refl refl))
  where
    either : (i j : ℕ) (a b : Bool) → (j == i) ≡ a → (i == j) ≡ b → cond a 0 (s i j) ≡ cond b 0 (s i j)
    either i j true true e f = refl
    either i j false false e f = refl
    either i j true false e f = absurd (eqb-false i j f (sym (eqb-true j i e)))
    either i j false true e f = absurd (eqb-false j i e (sym (eqb-true i j f)))

balanced : (all came granted had own out spent count all_gone : ℕ) → own ≡ count → had ≡ own + granted →
    all ≡ had + came
    → all_gone ≡ out + spent → out ≡ came → (pos all -ℤ pos all_gone) +ℤ pos spent ≡ pos (count + granted)
balanced all came granted had own out spent count all_gone a b c d e = omega (arith, ints)

pub remaining_and_spent : RemainingAndSpentAddUp
remaining_and_spent b below =
    (λ p. int_sum-differences node_numbers (given_to b) (gone_from b) p +ℤ pos (total_spent b)) ∙
    balanced _ _ _ _ _ _ _ _ _
    (sum-at node_numbers b.setter b.count below)
    (sum-add node_numbers (λ i. cond (i == b.setter) b.count 0) (granted_by b))
    (sum-add node_numbers (λ i. cond (i == b.setter) b.count 0 + granted_by b i)
    (λ i. sum_others node_numbers i (λ j. b.shifted j i)))
    (sum-add node_numbers (λ i. sum_others node_numbers i (λ j. b.shifted i j)) b.spent)
    (from_to node_numbers b.shifted)
