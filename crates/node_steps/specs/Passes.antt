-- What a pass of a point comes to.
use Rattle.std.specs.Prelude.{ℕ, ◌+◌, Bool, false, List, [], ◌∷◌, ◌++◌, slice_get, Option, Some, None}
use Rattle.actions.specs.Value.{TaskValue, TermValue, off}
use Rattle.actions.specs.Choice.{choice, words_needed}
use Rattle.counters.specs.Budgets.{has_rights}
use Rattle.stamp_register.specs.Keys.{KeyValue, stamp_of}
use Rattle.operations.specs.Operations.{Operation, Count, Hits, Execs, count_at}
use Rattle.replica_state.specs.States.{State, budget}
use Rattle.node_steps.specs.Nodes.{setting_of, terms_in}
use Rattle.node_calls.specs.Told.{Passed, Unset, NoTerm, Act}

-- node i has rights of this amount of a term of the key that is counted so
abbrev pub has_rights_of : ℕ → State → List ℕ → KeyValue → ℕ → ℕ → Option ℕ → Bool
has_rights_of i v name key term amount None = false
has_rights_of i v name key term amount (Some count) = has_rights (budget v name term key.node count) i amount

-- a counted term may run where the node has a right of it in its own view
abbrev pub may_run : ℕ → State → List ℕ → KeyValue → List TermValue → ℕ → Bool
may_run i v name key terms term = has_rights_of i v name key term 1 (count_at terms term)

-- how many words a pass takes
abbrev pub words_for : State → List ℕ → ℕ
words_for v name = words_needed (terms_in (setting_of v name))

-- the term that a pass triggers
abbrev pub triggered_term : ℕ → State → List ℕ → List ℕ → KeyValue × List TermValue → Option ℕ
triggered_term i v name words setting = choice setting.1 words (may_run i v name setting.0 setting.1)

abbrev pub task_in : Option TermValue → TaskValue
task_in None = off
task_in (Some term) = term.task

-- the reply
abbrev pub reply_of_choice : KeyValue × List TermValue → Option ℕ → Passed
reply_of_choice setting None = NoTerm (stamp_of setting.0)
reply_of_choice setting (Some term) = Act (stamp_of setting.0) term (task_in (slice_get setting.1 term))

abbrev pub reply_of_pass : ℕ → State → List ℕ → List ℕ → Option (KeyValue × List TermValue) → Passed
reply_of_pass i v name words None = Unset
reply_of_pass i v name words (Some setting) = reply_of_choice setting (triggered_term i v name words setting)

-- the reply where the point is as the state has it
abbrev pub pass_reply : ℕ → State → List ℕ → List ℕ → Passed
pass_reply i v name words = reply_of_pass i v name words (setting_of v name)

-- the operations: the next hit and, where a counted term is triggered, its next execution
abbrev pub next_hit : ℕ → State → List ℕ → Operation
next_hit i v name = Count (Hits name i) (v.hits name i + 1)

abbrev pub next_exec : ℕ → State → List ℕ → KeyValue → ℕ → Operation
next_exec i v name key term = Count (Execs name key term i) (v.execs name term i + 1)

abbrev pub execs_of_term : ℕ → State → List ℕ → KeyValue → ℕ → Option ℕ → List Operation
execs_of_term i v name key term None = []
execs_of_term i v name key term (Some count) = next_exec i v name key term ∷ []

abbrev pub execs_of_choice : ℕ → State → List ℕ → KeyValue × List TermValue → Option ℕ → List Operation
execs_of_choice i v name setting None = []
execs_of_choice i v name setting (Some term) = execs_of_term i v name setting.0 term (count_at setting.1 term)

abbrev pub ops_of_pass : ℕ → State → List ℕ → List ℕ →
    Option (KeyValue × List TermValue) → List Operation
ops_of_pass i v name words None = []
ops_of_pass i v name words (Some setting) =
    execs_of_choice i v name setting (triggered_term i v name words setting) ++ next_hit i v name ∷ []

abbrev pub pass_ops : ℕ → State → List ℕ → List ℕ → List Operation
pass_ops i v name words = ops_of_pass i v name words (setting_of v name)
