-- What the calls of nodes tell of budgets: which keys they set, what they granted, and what they executed.
use Rattle.std.specs.Prelude.{◌≡◌, ℕ, ◌+◌, ◌*◌, ◌^◌, ◌≤◌, ◌<◌, List, [], ◌∷◌, ◌++◌, length, map, if◌then◌else◌, Option, Some, None, count_by, zero, suc}
use Rattle.counters.specs.Sums.{sum_below}
use Rattle.stamp_register.specs.declared.key.Stamp.{Stamp}
use Rattle.stamp_register.specs.Keys.{KeyValue, stamp_of}
use Rattle.operations.specs.Operations.{Operation}
use Rattle.node_calls.specs.Told.{Told}
use Rattle.node_calls.specs.Asks.{Asked, Call, call_from}
use Rattle.node_calls.specs.Asks as asks
use Rattle.node_steps.specs.Nodes.{Node, start, state_shown}
use Rattle.node_core.specs.Steps.{after}
use Rattle.node_core.specs.Traces.{Kept, with_call}
use Rattle.cluster_model.specs.Histories.{keys_by, acts}
use Rattle.audit.specs.declared.sums.Sums.{Sums}
use Rattle.audit.specs.declared.tally.Tally.{Tally}
use Rattle.audit.specs.Sums.{is_term, sum_of}
use Rattle.audit.specs.Counts.{AreCountsOf, AddsKeys}
use Rattle.node_core.specs.Resumed.{IsLegalKept}
use Rattle.audit.specs.Traces.{Traces, trace_of}

-- ---- of the calls of node i, from this state of it on

-- the keys that they set
abbrev pub keys_from : ℕ → Node → List Call → List Operation
keys_from i n [] = []
keys_from i n (c ∷ cs) = keys_by i n (Some c.ask) ++ keys_from i (after i n c.ask c.words) cs

-- the rights that a grant adds to a term under a stamp, where the point has this key
abbrev pub amount_under : Option KeyValue → ℕ → ℕ → Stamp → ℕ → ℕ
amount_under None k amount stamp term = 0
amount_under (Some key) k amount stamp term = if is_term (stamp_of key) k stamp term then amount else 0

abbrev pub granted_by : Node → Asked → Stamp → ℕ → ℕ
granted_by n (asks.Grant name k amount) stamp term =
    amount_under ((state_shown n).key name) k amount stamp term
granted_by n _ stamp term = 0

abbrev pub granted_from : ℕ → Node → List Call → Stamp → ℕ → ℕ
granted_from i n [] stamp term = 0
granted_from i n (c ∷ cs) stamp term =
    granted_by n c.ask stamp term + granted_from i (after i n c.ask c.words) cs stamp term

-- the executions that they were answered with
abbrev pub executed_in : List Call → Stamp → ℕ → ℕ
executed_in calls stamp term = count_by (λ call. acts stamp term call.reply) calls

-- ---- of all nodes below a number, each from its start

abbrev pub calls_of : ℕ → Traces → ℕ → List Call
calls_of nodes traces i = map (call_from nodes) (trace_of traces i)

abbrev pub keys_below : ℕ → Traces → ℕ → List Operation
keys_below nodes traces zero = []
keys_below nodes traces (suc i) = keys_from i start (calls_of nodes traces i) ++ keys_below nodes traces i

abbrev pub granted_below : ℕ → Traces → ℕ → Stamp → ℕ → ℕ
granted_below nodes traces below stamp term =
    sum_below below (λ i. granted_from i start (calls_of nodes traces i) stamp term)

abbrev pub executed_below : ℕ → Traces → ℕ → Stamp → ℕ → ℕ
executed_below nodes traces below stamp term =
    sum_below below (λ i. executed_in (calls_of nodes traces i) stamp term)

-- ---- as a tally grows

-- a node is what another one is after a call, which is legal
pub record IsAfter (k new : Kept) (t : Told) : Type 0 where
  pub made : new ≡ with_call k (call_from k.config.nodes t)
  pub legal : IsLegalKept new

abbrev pub IsAfterSome : Kept → Told → Type 0
IsAfterSome new t = (k : Kept) × IsAfter k new t

-- sums that have room for many numbers of 64 bits more
abbrev pub HaveRoom : Sums → Type 0
HaveRoom sums = (stamp : Stamp) (term : ℕ) → sum_of sums stamp term < 2 ^ 127

-- a tally has more by these calls of node i: the keys that they set, what they granted, and what they
-- executed
pub record Notes (old new : Tally) (i : ℕ) (n : Node) (calls : List Call) : Type 0 where
  pub keys : AddsKeys old.counts new.counts (keys_from i n calls)
  pub granted : (stamp : Stamp) (term : ℕ) →
      sum_of new.granted stamp term ≡ sum_of old.granted stamp term + granted_from i n calls stamp term
  pub executed : (stamp : Stamp) (term : ℕ) →
      sum_of new.executed stamp term ≡ sum_of old.executed stamp term + executed_in calls stamp term
  pub few_granted : (stamp : Stamp) (term : ℕ) →
      sum_of new.granted stamp term ≤ sum_of old.granted stamp term + length calls * 2 ^ 64
  pub few_executed : (stamp : Stamp) (term : ℕ) →
      sum_of new.executed stamp term ≤ sum_of old.executed stamp term + length calls

-- a tally is that of all nodes below a number
pub record IsTallied (t : Tally) (nodes : ℕ) (traces : Traces) (below : ℕ) : Type 0 where
  pub keys : AreCountsOf t.counts (keys_below nodes traces below)
  pub granted : (stamp : Stamp) (term : ℕ) →
      sum_of t.granted stamp term ≡ granted_below nodes traces below stamp term
  pub executed : (stamp : Stamp) (term : ℕ) →
      sum_of t.executed stamp term ≡ executed_below nodes traces below stamp term
  pub few_granted : (stamp : Stamp) (term : ℕ) → sum_of t.granted stamp term ≤ below * 2 ^ 96
  pub few_executed : (stamp : Stamp) (term : ℕ) → sum_of t.executed stamp term ≤ below * 2 ^ 32
