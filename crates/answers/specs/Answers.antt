-- What a script, a run of threads or an audit answers.
use Rattle.std.specs.Prelude.{ℕ, ℤ, Bool, List, Option, Some, None}
use Rattle.actions.specs.Value.{TaskValue, task_value}
use Rattle.audit.specs.declared.fault.AuditFault.{AuditFault}
use Rattle.audit.specs.declared.total.Total.{Total}
use Rattle.cluster_model.specs.declared.fault.WorldFault.{WorldFault}
use Rattle.node_core.specs.Traces.{state_known}
use Rattle.replica_state.specs.States.{State}
use Rattle.stamp_register.specs.declared.key.Stamp.{Stamp}
use Rattle.answers.specs.declared.answer.Answer.{Answer}
use Rattle.answers.specs.declared.answer.Answer.TheVariants as answers
use Rattle.answers.specs.declared.answer.Kind.{Kind}
use Rattle.answers.specs.declared.answer.Kind.TheVariants as kinds

pub data AnswerValue : Type 0 where
  set : (stamp : Stamp) → AnswerValue
  removed : (stamp : Stamp) → AnswerValue
  loaded : (entries : ℕ) → AnswerValue
  unset : AnswerValue
  no_term : (stamp : Stamp) → AnswerValue
  act : (stamp : Stamp) (term : ℕ) (task : TaskValue) → AnswerValue
  shifted : (total : ℕ) → AnswerValue
  granted : (total : ℕ) → AnswerValue
  message : (number : ℕ) → AnswerValue
  delivered : (changed : Bool) → AnswerValue
  refused : (fault : WorldFault) → AnswerValue
  bad_line : AnswerValue
  listed : (text : List ℕ) → AnswerValue
  report : (state : State) (nodes : ℕ) → AnswerValue
  rights : (left : ℤ) → AnswerValue
  spent : (count : ℕ) → AnswerValue
  hits : (count : ℕ) → AnswerValue
  workers : (count : ℕ) → AnswerValue
  calls : (count : ℕ) → AnswerValue
  audit_yes : AnswerValue
  audit_no : (fault : AuditFault) → AnswerValue
  budget : (total : Total) → AnswerValue
  cut : (node : ℕ) → AnswerValue

-- an answer of the code, without where its parts lie in memory
abbrev pub answer_value : Answer → AnswerValue
answer_value (answers.Set stamp) = set stamp
answer_value (answers.Removed stamp) = removed stamp
answer_value (answers.Loaded entries) = loaded entries
answer_value answers.Unset = unset
answer_value (answers.NoTerm stamp) = no_term stamp
answer_value (answers.Act stamp term task) = act stamp term (task_value task.now)
answer_value (answers.Shifted total) = shifted total
answer_value (answers.Granted total) = granted total
answer_value (answers.Message number) = message number
answer_value (answers.Delivered changed) = delivered changed
answer_value (answers.Refused fault) = refused fault
answer_value answers.BadLine = bad_line
answer_value (answers.Listed text) = listed text.now
answer_value (answers.Report node) = report (state_known node.now) node.now.config.nodes
answer_value (answers.Rights left) = rights left
answer_value (answers.Spent count) = spent count
answer_value (answers.Hits count) = hits count
answer_value (answers.Workers count) = workers count
answer_value (answers.Calls count) = calls count
answer_value answers.Yes = audit_yes
answer_value (answers.No fault) = audit_no fault
answer_value (answers.Budget total) = budget total.now
answer_value (answers.Cut node) = cut node

-- a pass of a point that isn't set, a refusal, or any other
abbrev pub kind_of : AnswerValue → Kind
kind_of unset = kinds.Unset
kind_of (refused fault) = kinds.Refused
kind_of _ = kinds.Other

-- the same where there may be none
abbrev pub kind_in : Option AnswerValue → Kind
kind_in None = kinds.Other
kind_in (Some answer) = kind_of answer
