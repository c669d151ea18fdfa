-- The totals of an audit.
use Rattle.std.specs.Prelude.{◌≡◌, ℕ, List, Some, slice_get}
use Rattle.std.specs.List.Sorted.{IsStrictlySortedBy}
use Rattle.std.specs.Ordering.{nat_cmp, ordering_then}
use Rattle.std.specs.Cmp.Lexicographic.{slice_cmp}
use Rattle.std.specs.declared.cmp.Ordering.{Ordering}
use Rattle.stamp_register.specs.declared.key.Stamp.{Stamp}
use Rattle.stamp_register.specs.Keys.{KeyValue, stamp_of}
use Rattle.operations.specs.Operations.{count_of}
use Rattle.cluster_model.specs.Worlds.{Cluster, Event}
use Rattle.cluster_model.specs.Histories.{IsIssued, all_granted, all_executions}
use Rattle.audit.specs.declared.tally.Tally.{Tally}
use Rattle.audit.specs.declared.total.Total.{Total}
use Rattle.audit.specs.Sums.{sum_of}
use Rattle.audit.specs.Counts.{count_kept}

-- totals stand by name, then by stamp, then by term
abbrev pub total_cmp : Total → Total → Ordering
total_cmp a b =
    ordering_then
    (ordering_then (ordering_then (slice_cmp nat_cmp a.name b.name) (nat_cmp a.stamp.clock b.stamp.clock))
    (nat_cmp a.stamp.node b.stamp.node))
    (nat_cmp a.term b.term)

-- one of the totals is of this term of this point under this stamp
pub record HasTotal (totals : List Total) (name : List ℕ) (stamp : Stamp) (term : ℕ) : Type 0 where
  pub place : ℕ
  pub total : Total
  pub there : slice_get totals place ≡ Some total
  pub named : total.name ≡ name
  pub stamped : total.stamp ≡ stamp
  pub numbered : total.term ≡ term

-- a total is of a counted term of a key that was issued: its count, what was granted of it, and how
-- often it was executed, in a list of events
pub record IsTotal (c : Cluster) (es : List Event) (t : Total) : Type 0 where
  pub key : KeyValue
  pub issued : IsIssued c es t.name key
  pub stamped : stamp_of key ≡ t.stamp
  pub counted : count_of key t.term ≡ Some t.count
  pub granted : t.granted ≡ all_granted c es t.name key t.term
  pub executed : t.executed ≡ all_executions c es t.stamp t.term

-- there is just one for each counted term of each key that was issued
pub record AreTotals (c : Cluster) (es : List Event) (totals : List Total) : Type 0 where
  pub each : (place : ℕ) (t : Total) → slice_get totals place ≡ Some t → IsTotal c es t
  pub all : (name : List ℕ) (key : KeyValue) (term count : ℕ) → IsIssued c es name key →
      count_of key term ≡ Some count → HasTotal totals name (stamp_of key) term
  pub ascend : IsStrictlySortedBy total_cmp totals

-- ---- of a tally

pub record IsTotalIn (tally : Tally) (t : Total) : Type 0 where
  pub counted : count_kept tally.counts t.name t.stamp t.term ≡ Some t.count
  pub granted : t.granted ≡ sum_of tally.granted t.stamp t.term
  pub executed : t.executed ≡ sum_of tally.executed t.stamp t.term

-- there is just one for each count that is kept
pub record AreTotalsIn (tally : Tally) (totals : List Total) : Type 0 where
  pub each : (place : ℕ) (t : Total) → slice_get totals place ≡ Some t → IsTotalIn tally t
  pub all : (name : List ℕ) (stamp : Stamp) (term count : ℕ) →
      count_kept tally.counts name stamp term ≡ Some count → HasTotal totals name stamp term
  pub ascend : IsStrictlySortedBy total_cmp totals
