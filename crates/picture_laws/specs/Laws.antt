-- The numbers of a chart, in the words of the cluster's model.
use Rattle.std.specs.Prelude.{◌≡◌, ℕ, ◌+◌, ◌<◌, ◌≤◌, pos, List, map, reverse, take, filter, nat_lt, slice_index, Some, Ok}
use Rattle.counters.specs.Sums.{int_sum_below}
use Rattle.stamp_register.specs.Keys.{KeyValue, stamp_of}
use Rattle.operations.specs.Operations.{count_of}
use Rattle.node_calls.specs.Asks.{call_from}
use Rattle.cluster_model.specs.Worlds.{Cluster, Event, world}
use Rattle.cluster_model.specs.Schedules.{IsDeltaSchedule}
use Rattle.cluster_model.specs.Histories.{IsIssued, held, in_transit, all_granted, all_executions}
use Rattle.audit.specs.declared.auditing.AuditYes.{AuditYes}
use Rattle.audit.specs.Answers.{IsAudited, events_in}
use Rattle.audit.specs.Places.{count_at}
use Rattle.audit.specs.Receipts.{Lists}
use Rattle.audit.specs.Traces.{IsSized, AllLegal, audited, trace_of}
use Rattle.drill_picture.specs.declared.place.Place.{Place}
use Rattle.drill_picture.specs.Budgets.{BudgetTold}
use Rattle.drill_picture.specs.Calls.{Traces}
use Rattle.drill_picture.specs.Placing.{columns_of}
use Rattle.drill_picture.specs.Rights.{RowTold}
use Rattle.drill_picture.specs.Scale.{ScaleTold, bin_of}
use Rattle.drill_picture.specs.Stories.{story_behind}

-- the calls in the first columns of a picture, in the order in which they stand
abbrev pub order_before : ScaleTold → List Place → ℕ → List (ℕ × ℕ)
order_before scale places bin =
    map (λ (p : Place). (p.node, p.index)) (filter (λ (p : Place). nat_lt (bin_of scale p.column) bin) places)

-- as events of the cluster, the last of them first
abbrev pub events_before : Traces → ScaleTold → List Place → ℕ → List Event
events_before traces scale places bin = events_in scale.nodes traces (order_before scale places bin)

-- a picture's scale: of so many nodes, and each of its columns holds at least one column of calls
pub record IsScaleOf (traces : Traces) (scale : ScaleTold) : Type 0 where
  pub sized : IsSized scale.nodes traces
  pub some : 1 ≤ scale.step

-- these calls are a schedule, in which each node sends what differs, and each trace is told up to there
pub record IsScheduled (traces : Traces) (scale : ScaleTold) (places : List Place) (bin : ℕ) : Type 0 where
  pub schedule : IsDeltaSchedule (audited scale.nodes) (events_before traces scale places bin)
  pub told : (i : ℕ) → (world (audited scale.nodes) (events_before traces scale places bin)).trace i
      ≡ map (call_from scale.nodes) (take (count_at i (reverse (order_before scale places bin))) (trace_of traces i))

-- where each node replies as its trace says, so are those of all first columns
abbrev pub ColumnsAreASchedule : Type 0
ColumnsAreASchedule =
    (traces : Traces) (scale : ScaleTold) (columns bin : ℕ) →
    IsScaleOf traces scale → AllLegal scale.nodes traces → IsScheduled traces scale (columns_of traces columns) bin

-- a row has the rights of a term of a key, counted so, as they are after these events
pub record IsRowOf (c : Cluster) (es : List Event) (name : List ℕ) (key : KeyValue) (term count : ℕ) (row : RowTold) :
    Type 0 where
  pub whole : row.whole ≡ count + all_granted c es name key term
  pub spent : row.spent ≡ all_executions c es (stamp_of key) term
  pub held : (i : ℕ) → i < c.nodes → pos (slice_index row.held i) ≡ held c es name key term count i
  pub way : (j : ℕ) → j < c.nodes →
      pos (slice_index row.way j) ≡ int_sum_below c.nodes (λ i. in_transit c es name key term i j)

abbrev pub budget_of_key : List ℕ → KeyValue → ℕ → ℕ → BudgetTold
budget_of_key name key term count = record { name = name; stamp = stamp_of key; term = term; count = count }

-- so it is with what a chart shows behind the columns, from where the key is issued on, while its rights
-- are fewer than 2^64
abbrev pub ColumnsTellTheWorld : Type 0
ColumnsTellTheWorld =
    (traces : Traces) (scale : ScaleTold) (columns bin : ℕ) →
    IsScaleOf traces scale → AllLegal scale.nodes traces →
    (name : List ℕ) (key : KeyValue) (term count : ℕ) →
    IsIssued (audited scale.nodes) (events_before traces scale (columns_of traces columns) bin) name key →
    count_of key term ≡ Some count →
    count + all_granted (audited scale.nodes) (events_before traces scale (columns_of traces columns) bin) name key term
    ≤ 18446744073709551615 →
    IsRowOf (audited scale.nodes) (events_before traces scale (columns_of traces columns) bin) name key term count
    (story_behind traces scale (columns_of traces columns) (budget_of_key name key term count) bin).row

-- so it holds of each drill that an audit explains
abbrev pub YesIsLegal : Type 0
YesIsLegal = (nodes : ℕ) (traces : Traces) (lists : Lists) (found : AuditYes) →
    IsAudited nodes traces lists (Ok found) → IsSized nodes traces × AllLegal nodes traces
