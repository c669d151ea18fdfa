-- What a node prints of what it knows.
use Rattle.std.specs.Prelude.{ℕ, List, Option, Some, None, if◌then◌else◌, decimal, ℤ, pos, slice_get}
use Rattle.std.specs.Fmt.{signed_decimal}
use Rattle.actions.specs.Names.{is_name}
use Rattle.replica_state.specs.States.{State, rights_of, spent_of, total_hits}
use Rattle.node_core.specs.Traces.{Kept, state_known}
use Rattle.node_steps.specs.Texts.{list_text}
use Rattle.report_text.specs.Lines.{report_lines_text}
use Rattle.cluster_model.specs.declared.fault.WorldFault.TheVariants.{NoNode}
use Rattle.cluster_model.specs.Events.{WorldValue}
use Rattle.scripts.specs.Commands.{QuestionValue, list, report, rights, spent, hits}
use Rattle.answers.specs.Answers.{AnswerValue}
use Rattle.answers.specs.Answers as answers
use Rattle.answers.specs.Lines.{refused_text}
use Rattle.streams.specs.Fields.{output_line}

-- a text that is no name names no point
abbrev pub rights_named : State → List ℕ → ℕ → ℕ → ℤ
rights_named v name term node = if is_name name then rights_of v name term node else pos 0

abbrev pub spent_named : State → List ℕ → ℕ → ℕ
spent_named v name term = if is_name name then spent_of v name term else 0

abbrev pub hits_named : State → List ℕ → ℕ
hits_named v name = if is_name name then total_hits v name else 0

-- a report is of all nodes of the cluster, and each of its lines has an end of its own
abbrev pub question_output : Kept → QuestionValue → List ℕ
question_output k list = output_line (list_text (state_known k))
question_output k report = report_lines_text (state_known k) k.config.nodes
question_output k (rights name term node) =
    output_line (signed_decimal (rights_named (state_known k) name term node))
question_output k (spent name term) = output_line (decimal (spent_named (state_known k) name term))
question_output k (hits name) = output_line (decimal (hits_named (state_known k) name))

abbrev pub question_output_at : Option Kept → QuestionValue → List ℕ
question_output_at None question = output_line (refused_text NoNode)
question_output_at (Some k) question = question_output k question

-- that of a node by its number, if there is one
abbrev pub asked_output : WorldValue → ℕ → QuestionValue → List ℕ
asked_output w node question = question_output_at (slice_get w.nodes node) question

-- ---- the same as an answer

abbrev pub question_answer : Kept → QuestionValue → AnswerValue
question_answer k list = answers.listed (list_text (state_known k))
question_answer k report = answers.report (state_known k) k.config.nodes
question_answer k (rights name term node) = answers.rights (rights_named (state_known k) name term node)
question_answer k (spent name term) = answers.spent (spent_named (state_known k) name term)
question_answer k (hits name) = answers.hits (hits_named (state_known k) name)

abbrev pub question_answer_at : Option Kept → QuestionValue → AnswerValue
question_answer_at None question = answers.refused NoNode
question_answer_at (Some k) question = question_answer k question

abbrev pub asked_answer : WorldValue → ℕ → QuestionValue → AnswerValue
asked_answer w node question = question_answer_at (slice_get w.nodes node) question
