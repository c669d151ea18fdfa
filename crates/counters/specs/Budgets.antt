-- The budget of one counted term: who holds how many rights to execute it.
use Rattle.std.specs.Prelude.{◌≡◌, ℕ, Bool, ◌+◌, ◌<◌, ◌==◌, nat_le, ℤ, pos, ◌+ℤ◌, ◌-ℤ◌, if◌then◌else◌}
use Rattle.counters.specs.Sums.{node_numbers, sum_below, int_sum_below, sum_others}

-- a term counted in a key: the node that set it, its count, the total that each node shifted to
-- each other and, at its own place, granted itself, and what each spent
pub record Budget : Type 0 where
  pub setter : ℕ
  pub count : ℕ
  pub shifted : ℕ → ℕ → ℕ
  pub spent : ℕ → ℕ

-- what node i granted itself beyond the count
abbrev pub granted_by : Budget → ℕ → ℕ
granted_by b i = b.shifted i i

-- what node i was given: the whole count if it set the key, what it granted itself, and what
-- others shifted to it
abbrev pub given_to : Budget → ℕ → ℕ
given_to b i =
    (if i == b.setter then b.count else 0) + granted_by b i
    + sum_others node_numbers i (λ j. b.shifted j i)

-- what went from node i: what it shifted to others, and what it spent
abbrev pub gone_from : Budget → ℕ → ℕ
gone_from b i = sum_others node_numbers i (λ j. b.shifted i j) + b.spent i

-- the rights of node i, which are negative where a spend is known before the shift that paid for it
abbrev pub rights : Budget → ℕ → ℤ
rights b i = pos (given_to b i) -ℤ pos (gone_from b i)

-- node i has rights of this amount
abbrev pub has_rights : Budget → ℕ → ℕ → Bool
has_rights b i amount = nat_le (gone_from b i + amount) (given_to b i)

-- what all nodes spent, what all granted themselves, and the rights that remain over all nodes
abbrev pub total_spent : Budget → ℕ
total_spent b = sum_below node_numbers b.spent

abbrev pub total_granted : Budget → ℕ
total_granted b = sum_below node_numbers (granted_by b)

abbrev pub remaining_rights : Budget → ℤ
remaining_rights b = int_sum_below node_numbers (rights b)

-- whatever was shifted and spent, what was spent and what remains add up to the count and what
-- was granted
abbrev pub RemainingAndSpentAddUp : Type 0
RemainingAndSpentAddUp =
    (b : Budget) → b.setter < node_numbers
    → remaining_rights b +ℤ pos (total_spent b) ≡ pos (b.count + total_granted b)
