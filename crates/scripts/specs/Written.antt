-- What the lines of a script are answered, and what a script prints by the writer that is wanted.
use Rattle.std.specs.Prelude.{ℕ, List, [], ◌++◌, length, if◌then◌else◌, Option, Some, None}
use Rattle.answers.specs.Answers.{AnswerValue, bad_line, refused}
use Rattle.answers.specs.Printing.{written_in}
use Rattle.answers.specs.Warned.{warning_objects}
use Rattle.answers.specs.declared.printed.Format.{Format}
use Rattle.answers.specs.declared.printed.Format.TheVariants as formats
use Rattle.node_calls.specs.declared.fault.NodeFault.TheVariants.{BadConfig}
use Rattle.cluster_model.specs.declared.fault.WorldFault.TheVariants.{Refused}
use Rattle.cluster_model.specs.Worlds.{is_cluster_size}
use Rattle.cluster_model.specs.Events.{WorldValue, EventValue, answer}
use Rattle.streams.specs.Lines.{is_skipped}
use Rattle.streams.specs.Fields.{lines_of}
use Rattle.scripts.specs.Commands.{CommandValue, nodes, event, question}
use Rattle.scripts.specs.Replies.{answered_as}
use Rattle.scripts.specs.Questions.{asked_answer}
use Rattle.scripts.specs.Script.{command_in, echo_of, echoed_output, echoed_text, line_output, script_text, text_from}
use Rattle.scripts.specs.declared.form.Form.{Form}
use Rattle.scripts.specs.declared.form.Form.TheVariants as forms

-- ---- answers

abbrev pub event_answer : WorldValue → EventValue → AnswerValue
event_answer w e = answered_as (length w.messages) (answer w e)

-- of a command; the line that makes the cluster has none
abbrev pub command_answer : Option WorldValue → CommandValue → Option AnswerValue
command_answer None (nodes count cap) = if is_cluster_size count then None else Some (refused (Refused BadConfig))
command_answer None (event e) = Some bad_line
command_answer None (question node asked) = Some bad_line
command_answer (Some w) (nodes count cap) = Some bad_line
command_answer (Some w) (event e) = Some (event_answer w e)
command_answer (Some w) (question node asked) = Some (asked_answer w node asked)

-- of a line that isn't skipped, and of any
abbrev pub read_answer : Option WorldValue → Option CommandValue → Option AnswerValue
read_answer w None = Some bad_line
read_answer w (Some command) = command_answer w command

abbrev pub line_answer : Option WorldValue → List ℕ → Option AnswerValue
line_answer w line = if is_skipped line then None else read_answer w (command_in line)

-- ---- what is printed

abbrev pub line_objects : Option WorldValue → List ℕ → List ℕ
line_objects w line = written_in formats.Objects (line_answer w line)

unfoldable pub script_objects : List ℕ → List ℕ
script_objects script = text_from line_objects None (lines_of script)

abbrev pub format_of : Form → Format
format_of forms.Plain = formats.Lines
format_of forms.Echoed = formats.Lines
format_of forms.Objects = formats.Objects

-- the line itself, where that is wanted
abbrev pub echo_in : Form → List ℕ → List ℕ
echo_in forms.Plain line = []
echo_in forms.Echoed line = echo_of line
echo_in forms.Objects line = []

abbrev pub form_output : Form → Option WorldValue → List ℕ → List ℕ
form_output forms.Plain w line = line_output w line
form_output forms.Echoed w line = echoed_output w line
form_output forms.Objects w line = line_objects w line

-- what a script prints
abbrev pub form_text : Form → List ℕ → List ℕ
form_text forms.Plain script = script_text script
form_text forms.Echoed script = echoed_text script
form_text forms.Objects script = script_objects script

-- and what is said of it: with its answers as JSON objects, an object of each warning behind them
abbrev pub printed_with : Form → List ℕ → List (List ℕ) → List ℕ
printed_with forms.Plain printed warnings = printed
printed_with forms.Echoed printed warnings = printed
printed_with forms.Objects printed warnings = printed ++ warning_objects warnings
