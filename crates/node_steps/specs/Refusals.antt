-- When a node refuses what it is asked. The refusals stand in their order, and the first that applies is
-- the answer.
use Rattle.std.specs.Prelude.{◌≡◌, ◌≤◌, ℕ, ◌+◌, ◌-◌, Bool, true, false, ◌==◌, ◌&&◌, ◌||◌, nat_lt, nat_le, not, List, [], ◌∷◌, ◌++◌, length, map, position, Option, Some, None, is_none, Result, Ok, Err, zero, suc}
use Rattle.std.specs.Bool.{then_some}
use Rattle.std.specs.List.{list_any}
use Rattle.refusals.specs.Refusals.{first_fault}
use Rattle.actions.specs.Value.{TermValue}
use Rattle.actions.specs.Names.{is_name}
use Rattle.actions.specs.Reading.{is_bad_byte, reading}
use Rattle.actions.specs.SettingReading.{setting_reading}
use Rattle.actions.specs.declared.fault.ActionFault.{ActionFault}
use Rattle.actions.specs.declared.fault.SettingFault.{SettingFault}
use Rattle.actions.specs.declared.fault.SettingFault.TheVariants as settings
use Rattle.counters.specs.Sums.{node_numbers, sum_below}
use Rattle.counters.specs.Budgets.{given_to, gone_from}
use Rattle.counters.specs.Cells.{is_too_great}
use Rattle.stamp_register.specs.Keys.{KeyValue}
use Rattle.operations.specs.Operations.{Operation, writer_of, count_at, name_in}
use Rattle.replica_state.specs.States.{State, with_name, budget, granted_in, granted_of}
use Rattle.replica_state.specs.Folds.{fold}
use Rattle.replica_state.specs.Knowledge.{knows}
use Rattle.replica_state.specs.Unions.{with_names}
use Rattle.node_steps.specs.declared.config.Config.{Config}
use Rattle.node_calls.specs.declared.fault.NodeFault.{NodeFault}
use Rattle.node_calls.specs.declared.fault.NodeFault.TheVariants as faults
use Rattle.node_calls.specs.declared.fault.TextFault.TheVariants as texts
use Rattle.message_format.specs.Limits.{max_nodes, max_names}
use Rattle.message_format.specs.declared.fault.WireFault.{WireFault}
use Rattle.message_format.specs.declared.fault.WireFault.TheVariants as wires
use Rattle.node_calls.specs.Asks.{Asked, Message}
use Rattle.node_calls.specs.Asks as asks
use Rattle.node_steps.specs.Nodes.{Node, max_trace_cap, state_shown, setting_of, terms_in}
use Rattle.node_steps.specs.Passes.{has_rights_of, words_for}
use Rattle.node_steps.specs.Settings.{points_in}

-- what a delivery brings; bytes that are no message bring nothing
abbrev pub nothing_told : Message
nothing_told = record { from = 0; to = 0; base = 0; upto = 0; ack = 0; ops = [] }

abbrev pub message_in : Result Message WireFault → Message
message_in (Ok message) = message
message_in (Err fault) = nothing_told

-- the trace has as many entries as it may have
abbrev pub is_full : Config → ℕ → Bool
is_full config entries = nat_le config.trace_cap entries

abbrev pub no_entry : Config → ℕ → Option NodeFault
no_entry config entries = then_some (is_full config entries) faults.TraceFull

abbrev pub no_name : List ℕ → Option NodeFault
no_name name = then_some (not (is_name name)) faults.BadName

abbrev pub bad_actions : Result (List TermValue) ActionFault → Option NodeFault
bad_actions (Ok terms) = None
bad_actions (Err fault) = Some (faults.BadActions (texts.Actions fault))

-- a text that is too long or has a bad byte is refused before its terms are read
abbrev pub IsReadable : List ℕ → Type 0
IsReadable text = (length text ≤ 1024) × (position is_bad_byte text ≡ None)

-- a setting with a bad name is refused for the name
abbrev pub setting_fault : SettingFault → NodeFault
setting_fault (settings.BadName entry) = faults.BadName
setting_fault fault = faults.BadActions (texts.Setting fault)

abbrev pub bad_setting : Result (List (List ℕ × List TermValue)) SettingFault → Option NodeFault
bad_setting (Ok points) = None
bad_setting (Err fault) = Some (setting_fault fault)

-- more names would be held than a node may
abbrev pub too_many : List (List ℕ) → Bool
too_many names = nat_lt max_names (length names)

-- these are too many names, and there are no clocks for so many keys
abbrev pub no_place : List (List ℕ) → Option NodeFault
no_place names = then_some (too_many names) faults.TooManyPoints

abbrev pub no_clock : Node → ℕ → Option NodeFault
no_clock n count = then_some (is_too_great (n.marks.clock + count)) faults.ClockFull

-- why a key of a name is refused
abbrev pub key_refusal : Node → List ℕ → Option NodeFault
key_refusal n name = first_fault (no_place (with_name name (state_shown n).names) ∷ no_clock n 1 ∷ [])

-- the number of another node
abbrev pub is_bad_node : Config → ℕ → Bool
is_bad_node config to = not (nat_lt to config.nodes) || to == config.node

abbrev pub no_node : Config → ℕ → Option NodeFault
no_node config to = then_some (is_bad_node config to) faults.BadNode

-- rights of this amount aren't there, and how many there are
abbrev pub too_few : ℕ → State → List ℕ → ℕ → ℕ → Option (KeyValue × List TermValue) → Bool
too_few i v name term amount None = true
too_few i v name term amount (Some setting) =
    not (has_rights_of i v name setting.0 term amount (count_at setting.1 term))

abbrev pub rights_counted : ℕ → State → List ℕ → KeyValue → ℕ → Option ℕ → ℕ
rights_counted i v name key term None = 0
rights_counted i v name key term (Some count) =
    let b = budget v name term key.node count in
    given_to b i - gone_from b i

abbrev pub rights_here : ℕ → State → List ℕ → ℕ → Option (KeyValue × List TermValue) → ℕ
rights_here i v name term None = 0
rights_here i v name term (Some setting) = rights_counted i v name setting.0 term (count_at setting.1 term)

-- an operation that node i wrote, and that the state doesn't know
abbrev pub is_ahead : ℕ → State → Operation → Bool
is_ahead i v op = writer_of op == i && not (knows v op)

-- one of these operations is
abbrev pub says_more : ℕ → State → List Operation → Bool
says_more i v ops = list_any (is_ahead i v) ops

-- the executions of a term of the name add up to more than its count and what was granted
abbrev pub exceeds_count : Option ℕ → ℕ → ℕ → Bool
exceeds_count None granted total = false
exceeds_count (Some count) granted total = nat_lt (count + granted) total

abbrev pub any_below : ℕ → (ℕ → Bool) → Bool
any_below zero test = false
any_below (suc n) test = test n || any_below n test

abbrev pub is_overspent : State → List ℕ → List TermValue → Bool
is_overspent v name terms =
    any_below (length terms) (λ term. exceeds_count (count_at terms term) (granted_of v name term)
    (sum_below node_numbers (v.execs name term)))

-- of a name that a message carries, in the state after it
abbrev pub overspends : State → Operation → Bool
overspends v op = is_overspent v (name_in op) (terms_in (setting_of v (name_in op)))

-- there aren't rights of this amount, and there are so many
abbrev pub no_rights : ℕ → State → List ℕ → ℕ → ℕ → Option (KeyValue × List TermValue) → Option NodeFault
no_rights i v name term amount setting =
    then_some (too_few i v name term amount setting) (faults.TooFewRights (rights_here i v name term setting))

-- the refusals of a shift but those of the trace and of the name, where the name has this setting or
-- none
abbrev pub faults_of_shift_under : Config → State → List ℕ → ℕ → ℕ → ℕ →
    Option (KeyValue × List TermValue) → List (Option NodeFault)
faults_of_shift_under config v name term to amount setting =
    then_some (is_none setting) faults.NotSet ∷
    then_some (nat_le (length (terms_in setting)) term) faults.NoSuchTerm ∷
    then_some (is_none (count_at (terms_in setting) term)) faults.NotCounted ∷
    no_node config to ∷
    then_some (amount == 0) faults.ZeroAmount ∷
    no_rights config.node v name term amount setting ∷
    then_some (is_too_great (v.shifts name term config.node to + amount)) faults.CellFull ∷ []

abbrev pub faults_of_shift : Config → State → List ℕ → ℕ → ℕ → ℕ → List (Option NodeFault)
faults_of_shift config v name term to amount =
    faults_of_shift_under config v name term to amount (setting_of v name)

abbrev pub shift_refusal : Config → State → List ℕ → ℕ → ℕ → ℕ → Option NodeFault
shift_refusal config v name term to amount = first_fault (faults_of_shift config v name term to amount)

-- the refusals of a grant but those of the trace and of the name, where the name has this setting or
-- none
abbrev pub faults_of_grant_under : Config → State → List ℕ → ℕ → ℕ →
    Option (KeyValue × List TermValue) → List (Option NodeFault)
faults_of_grant_under config v name term amount setting =
    then_some (is_none setting) faults.NotSet ∷
    then_some (nat_le (length (terms_in setting)) term) faults.NoSuchTerm ∷
    then_some (is_none (count_at (terms_in setting) term)) faults.NotCounted ∷
    then_some (amount == 0) faults.ZeroAmount ∷
    then_some (is_too_great (granted_in v name term config.node + amount)) faults.CellFull ∷ []

abbrev pub faults_of_grant : Config → State → List ℕ → ℕ → ℕ → List (Option NodeFault)
faults_of_grant config v name term amount =
    faults_of_grant_under config v name term amount (setting_of v name)

abbrev pub grant_refusal : Config → State → List ℕ → ℕ → ℕ → Option NodeFault
grant_refusal config v name term amount = first_fault (faults_of_grant config v name term amount)

abbrev pub bad_message : Result Message WireFault → Option NodeFault
bad_message (Ok message) = None
bad_message (Err fault) = Some (faults.BadMessage fault)

-- out of memory is out of memory, wherever it was met
abbrev pub wire_refusal : WireFault → NodeFault
wire_refusal wires.OutOfMemory = faults.OutOfMemory
wire_refusal fault = faults.BadMessage fault

-- the refusals of a message for what it is and what it says
abbrev pub faults_of_message : Config → Node → Result Message WireFault → List (Option NodeFault)
faults_of_message config n read =
    bad_message read ∷
    then_some (not ((message_in read).to == config.node)) faults.NotForMe ∷
    then_some (says_more config.node (state_shown n) (message_in read).ops) faults.OwnAhead ∷
    then_some (nat_lt n.marks.version (message_in read).ack) faults.AckAhead ∷
    then_some (list_any (overspends (fold ((message_in read).ops ++ n.ops))) (message_in read).ops)
    faults.Overspent ∷ []

-- too many names with those of a message, which nothing else refuses
abbrev pub too_many_told : Config → Node → Result Message WireFault → Option NodeFault
too_many_told config n read =
    then_some
    (is_none (first_fault (faults_of_message config n read)) && too_many (fold ((message_in read).ops ++ n.ops)).names)
    faults.TooManyPoints

-- a pass takes so many words
abbrev pub bad_words : ℕ → List ℕ → Option NodeFault
bad_words need words = then_some (not (length words == need)) (faults.BadWords need)

-- words are for a pass alone
abbrev pub spare_words : List ℕ → Option NodeFault
spare_words [] = None
spare_words (word ∷ words) = Some (faults.BadWords 0)

-- the refusals of an ask of a node whose trace has so many entries
abbrev pub faults_of : Config → ℕ → Node → Asked → List ℕ → List (Option NodeFault)
faults_of config entries n (asks.Set name text) words =
    no_entry config entries ∷ no_name name ∷ bad_actions (reading text) ∷
    no_place (with_name name (state_shown n).names) ∷ no_clock n 1 ∷ spare_words words ∷ []
faults_of config entries n (asks.Remove name) words =
    no_entry config entries ∷ no_name name ∷
    no_place (with_name name (state_shown n).names) ∷ no_clock n 1 ∷ spare_words words ∷ []
faults_of config entries n (asks.Load text) words =
    no_entry config entries ∷ bad_setting (setting_reading text) ∷
    no_place (with_names (map (λ point. point.0) (points_in text)) (state_shown n).names) ∷
    no_clock n (length (points_in text)) ∷ spare_words words ∷ []
faults_of config entries n (asks.Pass name) words =
    no_entry config entries ∷ no_name name ∷ bad_words (words_for (state_shown n) name) words ∷ []
faults_of config entries n (asks.Shift name term to amount) words =
    no_entry config entries ∷ no_name name ∷
    shift_refusal config (state_shown n) name term to amount ∷ spare_words words ∷ []
faults_of config entries n (asks.Grant name term amount) words =
    no_entry config entries ∷ no_name name ∷
    grant_refusal config (state_shown n) name term amount ∷ spare_words words ∷ []
faults_of config entries n (asks.Emit to versions chosen) words =
    no_entry config entries ∷ no_node config to ∷ spare_words words ∷ []
faults_of config entries n (asks.Deliver read) words =
    no_entry config entries ∷ too_many_told config n read ∷ spare_words words ∷
    faults_of_message config n read

abbrev pub refusal_at : Config → ℕ → Node → Asked → List ℕ → Option NodeFault
refusal_at config entries n ask words = first_fault (faults_of config entries n ask words)

-- a cluster has at least 1 node and at most so many, this is one of them, and it accepts at most so many
-- calls in its life
abbrev pub is_bad_config : Config → Bool
is_bad_config config = config.nodes == 0 || nat_lt max_nodes config.nodes || nat_le config.nodes config.node
    || nat_lt max_trace_cap config.trace_cap
