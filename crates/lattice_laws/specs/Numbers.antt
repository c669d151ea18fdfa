-- Numbers by place, beyond the last of which stands 0.
use Rattle.std.specs.Prelude.{◌≡◌, ◌≢◌, ◌<◌, ◌≤◌, ◌^◌, ℕ, List, [], length, slice_index}
use Rattle.std.proofs.Common.{arith}
use Rattle.lattice_laws.specs.Order.{IsJoinOrder}

-- 256 numbers of 64 bits at most
pub record AreNumbers (numbers : List ℕ) : Type 0 where
  pub few : length numbers ≤ 256
  pub small : (place : ℕ) → slice_index numbers place < 2 ^ 64

-- none of the first is greater than the second has at its place
abbrev pub NoneGreater : List ℕ → List ℕ → Type 0
NoneGreater x y = (place : ℕ) → slice_index x place ≤ slice_index y place

-- new has the number at the place, and at every other place what old has
pub record WritesNumber (old new : List ℕ) (place number : ℕ) : Type 0 where
  pub this_place : slice_index new place ≡ number
  pub other_places : (q : ℕ) → q ≢ place → slice_index new q ≡ slice_index old q

pub numbers_order : IsJoinOrder AreNumbers NoneGreater []
numbers_order = record {
  reflexive = λ x _ place. omega arith;
  transitive = λ x y z _ _ _ p q place. let here = p place in let there = q place in omega arith;
  bottom_admitted = record { few = omega arith; small = λ place. omega arith };
  bottom_least = λ x _ place. omega arith;
}
