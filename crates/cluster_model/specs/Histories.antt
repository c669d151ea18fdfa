-- What is said of a whole schedule: what its nodes learnt, which keys they issued, and of a term of one
-- such key, counted so, where its rights are and how often it was executed.
use Rattle.std.specs.Prelude.{ℕ, ◌+◌, ◌==◌, ◌&&◌, Bool, false, ℤ, pos, ◌-ℤ◌, List, [], ◌∷◌, ◌++◌, if◌then◌else◌, Option, Some, None, count_by}
use Rattle.std.specs.Str.{bytes_eq}
use Rattle.counters.specs.Sums.{sum_below, int_sum_below}
use Rattle.counters.specs.Budgets.{rights}
use Rattle.stamp_register.specs.declared.key.Stamp.{Stamp}
use Rattle.stamp_register.specs.Keys.{KeyValue, same_key}
use Rattle.operations.specs.Operations.{Operation, Set, IsIn}
use Rattle.replica_state.specs.States.{State, budget}
use Rattle.node_calls.specs.Asks.{Asked, Answered, Call}
use Rattle.node_calls.specs.Told.{Passed, Act}
use Rattle.node_calls.specs.Asks as asks
use Rattle.node_steps.specs.Nodes.{Node, state_shown}
use Rattle.node_core.specs.Steps.{operations_added}
use Rattle.node_steps.specs.Settings.{settings, operations_issued}
use Rattle.node_steps.specs.Refusals.{message_in}
use Rattle.cluster_model.specs.Worlds.{Cluster, Event, accepted, world}

-- the state of node i
abbrev pub state_of : Cluster → List Event → ℕ → State
state_of c es i = state_shown ((world c es).node i)

-- the operations that node i issues by what it accepts, and those that come to it from others
abbrev pub ops_issued : ℕ → Node → Option Asked → List ℕ → List Operation
ops_issued i n None words = []
ops_issued i n (Some (asks.Deliver read)) words = []
ops_issued i n (Some ask) words = operations_added i n ask words

abbrev pub ops_delivered : Option Asked → List Operation
ops_delivered (Some (asks.Deliver read)) = (message_in read).ops
ops_delivered _ = []

abbrev pub all_issued : Cluster → List Event → ℕ → List Operation
all_issued c [] i = []
all_issued c (e ∷ es) i =
    ops_issued i ((world c es).node i) (accepted c (world c es) e i) e.words ++ all_issued c es i

abbrev pub all_delivered : Cluster → List Event → ℕ → List Operation
all_delivered c [] i = []
all_delivered c (e ∷ es) i = ops_delivered (accepted c (world c es) e i) ++ all_delivered c es i

-- all that node i learnt
abbrev pub all_learnt : Cluster → List Event → ℕ → List Operation
all_learnt c es i = all_issued c es i ++ all_delivered c es i

-- the keys that are issued, each with its name
abbrev pub keys_by : ℕ → Node → Option Asked → List Operation
keys_by i n None = []
keys_by i n (Some ask) = operations_issued i n.marks.clock (settings ask)

abbrev pub keys_issued : Cluster → List Event → List Operation
keys_issued c [] = []
keys_issued c (e ∷ es) =
    keys_by e.node ((world c es).node e.node) (accepted c (world c es) e e.node) ++ keys_issued c es

abbrev pub IsIssued : Cluster → List Event → List ℕ → KeyValue → Type 0
IsIssued c es name key = IsIn (Set name key) (keys_issued c es)

-- the executions of a term under a stamp at node i are the replies there that say so
abbrev pub is_act_of : Stamp → ℕ → Passed → Bool
is_act_of stamp term (Act other k task) =
    other.clock == stamp.clock && (other.node == stamp.node && (k == term))
is_act_of stamp term _ = false

abbrev pub acts : Stamp → ℕ → Answered → Bool
acts stamp term (asks.IsPassed passed) = is_act_of stamp term passed
acts stamp term _ = false

abbrev pub executions : Cluster → List Event → Stamp → ℕ → ℕ → ℕ
executions c es stamp term i = count_by (λ call. acts stamp term call.reply) ((world c es).trace i)

-- a key is the key of a name
abbrev pub is_key : KeyValue → Option KeyValue → Bool
is_key key None = false
is_key key (Some other) = same_key other key

-- the rights of a term that node i shifted to node j under the key: what its accepted shifts add up to
abbrev pub amount_moved : Node → Option Asked → List ℕ → KeyValue → ℕ → ℕ → ℕ
amount_moved n (Some (asks.Shift other k to amount)) name key term j =
    if bytes_eq other name && (k == term && (to == j && is_key key ((state_shown n).key other)))
    then amount else 0
amount_moved n _ name key term j = 0

abbrev pub moved : Cluster → List Event → List ℕ → KeyValue → ℕ → ℕ → ℕ → ℕ
moved c [] name key term i j = 0
moved c (e ∷ es) name key term i j =
    amount_moved ((world c es).node i) (accepted c (world c es) e i) name key term j
    + moved c es name key term i j

-- the rights of a term that node i granted itself under the key: what its accepted grants add up to
abbrev pub amount_granted : Node → Option Asked → List ℕ → KeyValue → ℕ → ℕ
amount_granted n (Some (asks.Grant other k amount)) name key term =
    if bytes_eq other name && (k == term && is_key key ((state_shown n).key other))
    then amount else 0
amount_granted n _ name key term = 0

abbrev pub granted : Cluster → List Event → List ℕ → KeyValue → ℕ → ℕ → ℕ
granted c [] name key term i = 0
granted c (e ∷ es) name key term i =
    amount_granted ((world c es).node i) (accepted c (world c es) e i) name key term
    + granted c es name key term i

-- the key is node i's key of the name
abbrev pub is_under : Cluster → List Event → List ℕ → KeyValue → ℕ → Bool
is_under c es name key i = is_key key ((state_of c es i).key name)

-- the state of node i as it stood when the node was last under the key, if it ever was
abbrev pub state_under : Cluster → List Event → List ℕ → KeyValue → ℕ → Option State
state_under c [] name key i = None
state_under c (e ∷ es) name key i =
    if is_under c (e ∷ es) name key i then Some (state_of c (e ∷ es) i)
    else state_under c es name key i

-- the rights of a term counted so that node i holds: its rights in that state; before that, all for the
-- node that set the key and none for others
abbrev pub rights_under : Option State → List ℕ → KeyValue → ℕ → ℕ → ℕ → ℤ
rights_under None name key term count i = pos (if i == key.node then count else 0)
rights_under (Some v) name key term count i = rights (budget v name term key.node count) i

abbrev pub held : Cluster → List Event → List ℕ → KeyValue → ℕ → ℕ → ℕ → ℤ
held c es name key term count i = rights_under (state_under c es name key i) name key term count i

-- what node j has seen of the rights that another node i shifted to it: what that state of node j
-- has of them; before that, none
abbrev pub shifts_under : Option State → List ℕ → ℕ → ℕ → ℕ → ℕ
shifts_under None name term i j = 0
shifts_under (Some v) name term i j = v.shifts name term i j

abbrev pub seen : Cluster → List Event → List ℕ → KeyValue → ℕ → ℕ → ℕ → ℕ
seen c es name key term i j =
    if i == j then 0 else shifts_under (state_under c es name key j) name term i j

-- the rights that all nodes hold
abbrev pub all_held : Cluster → List Event → List ℕ → KeyValue → ℕ → ℕ → ℤ
all_held c es name key term count = int_sum_below c.nodes (held c es name key term count)

-- the rights on their way from node i to node j, and those between all nodes
abbrev pub in_transit : Cluster → List Event → List ℕ → KeyValue → ℕ → ℕ → ℕ → ℤ
in_transit c es name key term i j =
    pos (moved c es name key term i j) -ℤ pos (seen c es name key term i j)

abbrev pub all_in_transit : Cluster → List Event → List ℕ → KeyValue → ℕ → ℤ
all_in_transit c es name key term =
    int_sum_below c.nodes (λ i. int_sum_below c.nodes (in_transit c es name key term i))

-- what all nodes granted themselves, and the executions on all nodes
abbrev pub all_granted : Cluster → List Event → List ℕ → KeyValue → ℕ → ℕ
all_granted c es name key term = sum_below c.nodes (granted c es name key term)

abbrev pub all_executions : Cluster → List Event → Stamp → ℕ → ℕ
all_executions c es stamp term = sum_below c.nodes (executions c es stamp term)
