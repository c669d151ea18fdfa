-- Sums over node numbers.
use Rattle.std.specs.Prelude.{◌≡◌, ◌<◌, ℕ, ◌+◌, ◌==◌, zero, suc, if◌then◌else◌, List, length, slice_index_or, ℤ, pos, ◌+ℤ◌, ◌≤ℤ◌}

-- every node number is below this
unfoldable pub node_numbers : ℕ
node_numbers = 256

-- the sum over the numbers below n
abbrev pub sum_below : ℕ → (ℕ → ℕ) → ℕ
sum_below zero f = 0
sum_below (suc n) f = f n + sum_below n f

abbrev pub int_sum_below : ℕ → (ℕ → ℤ) → ℤ
int_sum_below zero f = pos 0
int_sum_below (suc n) f = f n +ℤ int_sum_below n f

-- the sum over the others
abbrev pub sum_others : ℕ → ℕ → (ℕ → ℕ) → ℕ
sum_others n i f = sum_below n (λ j. if j == i then 0 else f j)

-- of sums by place, none is further from 0 than this
abbrev pub AreWithin : ℕ → List ℤ → Type 0
AreWithin bound sums =
    (place : ℕ) → (pos 0 ≤ℤ (slice_index_or sums place (pos 0) +ℤ pos bound))
    × (slice_index_or sums place (pos 0) ≤ℤ pos bound)

-- to each so much is added
pub record AddsEach (more : ℕ → ℤ) (old new : List ℤ) : Type 0 where
  pub len : length new ≡ length old
  pub each : (place : ℕ) → place < length old →
      slice_index_or new place (pos 0) ≡ slice_index_or old place (pos 0) +ℤ more place
