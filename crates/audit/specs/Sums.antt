-- Sums by terms under stamps.
use Rattle.std.specs.Prelude.{ℕ, ◌==◌, ◌&&◌, Bool}
use Rattle.std.specs.Option.{unwrap_or}
use Rattle.std.specs.Map.{lookup}
use Rattle.std.specs.BTreeMap.{is_at}
use Rattle.std.specs.Ordering.{nat_cmp, ordering_then}
use Rattle.stamp_register.specs.declared.key.Stamp.{Stamp}
use Rattle.audit.specs.declared.sums.Sums.{Sums}

-- a term under a stamp is this term under this stamp
abbrev pub is_term : Stamp → ℕ → Stamp → ℕ → Bool
is_term other k stamp term = other.clock == stamp.clock && (other.node == stamp.node && (k == term))

-- the sum of a term under a stamp, 0 where nothing was added
unfoldable pub sum_of : Sums → Stamp → ℕ → ℕ
sum_of sums stamp term =
    unwrap_or
    (lookup
    (is_at (λ place. ordering_then (ordering_then (nat_cmp stamp.clock place.0) (nat_cmp stamp.node place.1))
    (nat_cmp term place.2)))
    sums.sums.entries)
    0
