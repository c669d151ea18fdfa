-- What a script prints: its lines are answered one after the other, each by the cluster that those
-- before it left.
use Rattle.std.specs.Prelude.{ℕ, List, [], ◌∷◌, ◌++◌, length, if◌then◌else◌, Option, Some, None, codes}
use Rattle.node_calls.specs.declared.fault.NodeFault.TheVariants.{BadConfig}
use Rattle.cluster_model.specs.declared.fault.WorldFault.TheVariants.{Refused}
use Rattle.cluster_model.specs.Worlds.{is_cluster_size}
use Rattle.cluster_model.specs.Events.{WorldValue, EventValue, new_world, answer}
use Rattle.cluster_model.specs.Runs.{after_answer}
use Rattle.streams.specs.Lines.{◌>>=◌, is_skipped, text_in}
use Rattle.streams.specs.Fields.{lines_of}
use Rattle.scripts.specs.Commands.{CommandValue, nodes, event, question, command_of}
use Rattle.answers.specs.Lines.{refused_text, bad_line_text}
use Rattle.scripts.specs.Replies.{answer_text}
use Rattle.streams.specs.Fields.{output_line}
use Rattle.scripts.specs.Questions.{asked_output}

-- what a line asks for, where it is text and has one of the forms
abbrev pub command_in : List ℕ → Option CommandValue
command_in line = text_in line >>= command_of

-- an event has the answer of the cluster that it comes to; and what is refused changes nothing
abbrev pub event_text : WorldValue → EventValue → List ℕ
event_text w e = answer_text (length w.messages) (answer w e)

abbrev pub after_event : WorldValue → EventValue → WorldValue
after_event w e = after_answer w e (answer w e)

-- what a command prints, and the cluster after it; a cluster is made once, and before that nothing
-- else is answered
abbrev pub command_output : Option WorldValue → CommandValue → List ℕ
command_output None (nodes count cap) =
    if is_cluster_size count then [] else output_line (refused_text (Refused BadConfig))
command_output None (event e) = output_line bad_line_text
command_output None (question node asked) = output_line bad_line_text
command_output (Some w) (nodes count cap) = output_line bad_line_text
command_output (Some w) (event e) = output_line (event_text w e)
command_output (Some w) (question node asked) = asked_output w node asked

abbrev pub after_command : Option WorldValue → CommandValue → Option WorldValue
after_command None (nodes count cap) =
    if is_cluster_size count then Some (new_world (record { nodes = count; trace_cap = cap })) else None
after_command None (event e) = None
after_command None (question node asked) = None
after_command (Some w) (nodes count cap) = Some w
after_command (Some w) (event e) = Some (after_event w e)
after_command (Some w) (question node asked) = Some w

-- the same of a line that isn't skipped
abbrev pub read_output : Option WorldValue → Option CommandValue → List ℕ
read_output w None = output_line bad_line_text
read_output w (Some command) = command_output w command

abbrev pub after_read : Option WorldValue → Option CommandValue → Option WorldValue
after_read w None = w
after_read w (Some command) = after_command w command

-- the same of any line
abbrev pub line_output : Option WorldValue → List ℕ → List ℕ
line_output w line = if is_skipped line then [] else read_output w (command_in line)

abbrev pub after_line : Option WorldValue → List ℕ → Option WorldValue
after_line w line = if is_skipped line then w else after_read w (command_in line)

-- a line as it is echoed, unless it is skipped
abbrev pub echo_of : List ℕ → List ℕ
echo_of line = if is_skipped line then [] else codes "> " ++ output_line line

-- the line, and what it prints
abbrev pub echoed_output : Option WorldValue → List ℕ → List ℕ
echoed_output w line = echo_of line ++ line_output w line

-- what lines give so, each by the cluster that those before it left
abbrev pub text_from :
    (Option WorldValue → List ℕ → List ℕ) → Option WorldValue → List (List ℕ) → List ℕ
text_from output w [] = []
text_from output w (line ∷ lines) = output w line ++ text_from output (after_line w line) lines

-- a script begins without a cluster
unfoldable pub script_text : List ℕ → List ℕ
script_text script = text_from line_output None (lines_of script)

-- with each line before what it prints
unfoldable pub echoed_text : List ℕ → List ℕ
echoed_text script = text_from echoed_output None (lines_of script)
