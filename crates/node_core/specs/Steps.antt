-- The step of one node: what an accepted ask adds to its operations, its marks after it, and the reply.
use Rattle.std.specs.Prelude.{ℕ, ◌+◌, max, ◌==◌, List, [], ◌∷◌, ◌++◌, length, if◌then◌else◌, Option, Some, None, Ok}
use Rattle.stamp_register.specs.Keys.{KeyValue}
use Rattle.operations.specs.Operations.{Operation, Count, Shifts}
use Rattle.replica_state.specs.States.{State, granted_in}
use Rattle.replica_state.specs.Folds.{fold, clock_of}
use Rattle.replica_state.specs.Knowledge.{changes}
use Rattle.delta_exchange.specs.Versions.{known_raised, acked_raised}
use Rattle.node_calls.specs.Asks.{Asked, Answered, Message, Versions}
use Rattle.node_calls.specs.Asks as asks
use Rattle.node_steps.specs.Nodes.{Node, Marks, state_shown}
use Rattle.node_steps.specs.Passes.{pass_ops, pass_reply}
use Rattle.node_steps.specs.Refusals.{message_in}
use Rattle.node_steps.specs.Settings.{operations_issued, points_in, settings}

-- a node moves so many rights more to another, or grants itself so many more where both are one
abbrev pub shift_under : ℕ → State → List ℕ → ℕ → ℕ → ℕ → Option KeyValue → List Operation
shift_under i v name term to amount None = []
shift_under i v name term to amount (Some key) =
    Count (Shifts name key term i to) (v.shifts name term i to + amount) ∷ []

-- the operations that node i adds
abbrev pub operations_added : ℕ → Node → Asked → List ℕ → List Operation
operations_added i n (asks.Set name text) words = operations_issued i n.marks.clock (settings (asks.Set name text))
operations_added i n (asks.Remove name) words = operations_issued i n.marks.clock (settings (asks.Remove name))
operations_added i n (asks.Load text) words = operations_issued i n.marks.clock (settings (asks.Load text))
operations_added i n (asks.Pass name) words = pass_ops i (state_shown n) name words
operations_added i n (asks.Shift name term to amount) words =
    shift_under i (state_shown n) name term to amount ((state_shown n).key name)
operations_added i n (asks.Grant name term amount) words =
    shift_under i (state_shown n) name term i amount ((state_shown n).key name)
operations_added i n (asks.Emit to versions chosen) words = []
operations_added i n (asks.Deliver read) words = (message_in read).ops

-- the clock counts the settings, and is raised to what a message carries
abbrev pub clock_after : Node → Asked → ℕ
clock_after n (asks.Set name text) = n.marks.clock + 1
clock_after n (asks.Remove name) = n.marks.clock + 1
clock_after n (asks.Load text) = n.marks.clock + length (points_in text)
clock_after n (asks.Pass name) = n.marks.clock
clock_after n (asks.Shift name term to amount) = n.marks.clock
clock_after n (asks.Grant name term amount) = n.marks.clock
clock_after n (asks.Emit to versions chosen) = n.marks.clock
clock_after n (asks.Deliver read) = max n.marks.clock (clock_of (message_in read).ops)

-- a message raises what is known of its sender, if nothing lies between what was known and its base, and
-- what the sender is known to know
abbrev pub known_by : Message → (ℕ → ℕ) → ℕ → ℕ
known_by m = known_raised m.from m.base m.upto

abbrev pub known_after : Node → Asked → ℕ → ℕ
known_after n (asks.Deliver read) = known_by (message_in read) n.marks.known
known_after n _ = n.marks.known

abbrev pub acked_by : Message → (ℕ → ℕ) → ℕ → ℕ
acked_by m = acked_raised m.from m.ack

abbrev pub acked_after : Node → Asked → ℕ → ℕ
acked_after n (asks.Deliver read) = acked_by (message_in read) n.marks.acked
acked_after n _ = n.marks.acked

abbrev pub version_after : ℕ → Node → Asked → List ℕ → ℕ
version_after i n ask words =
    n.marks.version + (if changes (state_shown n) (operations_added i n ask words) then 1 else 0)

abbrev pub marks_after : ℕ → Node → Asked → List ℕ → Marks
marks_after i n ask words =
    record {
      clock = clock_after n ask;
      version = version_after i n ask words;
      known = known_after n ask;
      acked = acked_after n ask;
    }

-- the states at the versions so far, of which this is the last
abbrev pub past_with : ℕ → State → (ℕ → State) → ℕ → State
past_with version now past v = if v == version then now else past v

-- node i after an accepted ask
unfoldable pub after : ℕ → Node → Asked → List ℕ → Node
after i n ask words =
    record {
      ops = operations_added i n ask words ++ n.ops;
      marks = marks_after i n ask words;
      past = past_with (version_after i n ask words) (fold (operations_added i n ask words ++ n.ops)) n.past;
    }

-- the message that an emit of node i sends
abbrev pub message_to : ℕ → ℕ → Versions → List Operation → Message
message_to i to versions chosen =
    record { from = i; to = to; base = versions.base; upto = versions.upto; ack = versions.ack; ops = chosen }

-- its reply
abbrev pub reply : ℕ → Node → Asked → List ℕ → Answered
reply i n (asks.Set name text) words = asks.IsSet (record { clock = n.marks.clock + 1; node = i })
reply i n (asks.Remove name) words = asks.IsRemoved (record { clock = n.marks.clock + 1; node = i })
reply i n (asks.Load text) words = asks.IsLoaded (length (points_in text))
reply i n (asks.Pass name) words = asks.IsPassed (pass_reply i (state_shown n) name words)
reply i n (asks.Shift name term to amount) words = asks.IsShifted ((state_shown n).shifts name term i to + amount)
reply i n (asks.Grant name term amount) words =
    asks.IsGranted (granted_in (state_shown n) name term i + amount)
reply i n (asks.Emit to versions chosen) words = asks.IsEmitted (Ok (message_to i to versions chosen))
reply i n (asks.Deliver read) words = asks.IsDelivered (changes (state_shown n) (message_in read).ops)
