-- The counted terms of keys.
use Rattle.std.specs.Prelude.{◌≡◌, ℕ, ◌&&◌, Bool, List, ◌++◌, Option, Some, IsSome}
use Rattle.std.specs.Map.{lookup}
use Rattle.std.specs.Str.{bytes_eq}
use Rattle.std.specs.BTreeMap.{is_at}
use Rattle.std.specs.Ordering.{nat_cmp, ordering_then}
use Rattle.std.specs.Cmp.Lexicographic.{slice_cmp}
use Rattle.stamp_register.specs.declared.key.Stamp.{Stamp}
use Rattle.stamp_register.specs.Keys.{KeyValue, stamp_of}
use Rattle.operations.specs.Operations.{Operation, Set, IsIn, count_of}
use Rattle.audit.specs.declared.counts.Counts.{Counts}
use Rattle.audit.specs.Sums.{is_term}

-- the count of a term of a point under a stamp, where one is kept
unfoldable pub count_kept : Counts → List ℕ → Stamp → ℕ → Option ℕ
count_kept counts name stamp term =
    lookup
    (is_at (λ place. ordering_then
    (ordering_then (ordering_then (slice_cmp nat_cmp name place.0) (nat_cmp stamp.clock place.1))
    (nat_cmp stamp.node place.2))
    (nat_cmp term place.3)))
    counts.counts.entries

-- a term of a point under a stamp is this one
abbrev pub is_counted_at : List ℕ → Stamp → ℕ → List ℕ → Stamp → ℕ → Bool
is_counted_at name stamp term other at k = bytes_eq name other && is_term stamp term at k

-- one of these operations sets a key of the point that has this stamp and counts the term so
pub record IsCounted (ops : List Operation) (name : List ℕ) (stamp : Stamp) (term count : ℕ) : Type 0 where
  pub key : KeyValue
  pub set : IsIn (Set name key) ops
  pub stamped : stamp_of key ≡ stamp
  pub counted : count_of key term ≡ Some count

-- what is kept are the counted terms of the keys that these operations set
pub record AreCountsOf (counts : Counts) (ops : List Operation) : Type 0 where
  pub sound : (name : List ℕ) (stamp : Stamp) (term count : ℕ) →
      count_kept counts name stamp term ≡ Some count → IsCounted ops name stamp term count
  pub whole : (name : List ℕ) (stamp : Stamp) (term count : ℕ) →
      IsCounted ops name stamp term count → IsSome (count_kept counts name stamp term)

-- what is kept is that of these operations too
abbrev pub AddsKeys : Counts → Counts → List Operation → Type 0
AddsKeys old new more = (ops : List Operation) → AreCountsOf old ops → AreCountsOf new (more ++ ops)
