-- What a line asks for.
use Rattle.std.specs.Prelude.{ℕ, List, [], ◌∷◌, if◌then◌else◌, Option, Some, None, codes}
use Rattle.std.specs.Str.{bytes_eq}
use Rattle.node_calls.specs.Told.{emits, passes}
use Rattle.call_lines.specs.Calls.{call_after}
use Rattle.cluster_model.specs.Events.{EventValue, calls, delivers, event_value}
use Rattle.decimals.specs.Decimals.{byte_of, word_of}
use Rattle.streams.specs.Lines.{◌>>=◌}
use Rattle.streams.specs.Fields.{fields_of, cut_of, field_of, field_cut_of, byte_cut_of}
use Rattle.scripts.specs.declared.command.Question.{Question}
use Rattle.scripts.specs.declared.command.Question.TheVariants as questions
use Rattle.scripts.specs.declared.command.Command.{Command}
use Rattle.scripts.specs.declared.command.Command.TheVariants as commands

-- a question about what a node shows
pub data QuestionValue : Type 0 where
  list : QuestionValue
  report : QuestionValue
  rights : (name : List ℕ) (term node : ℕ) → QuestionValue
  spent : (name : List ℕ) (term : ℕ) → QuestionValue
  hits : (name : List ℕ) → QuestionValue

-- a cluster of so many nodes, each with a trace of so many entries at most; an event of the cluster; or
-- a question to a node
pub data CommandValue : Type 0 where
  nodes : (count cap : ℕ) → CommandValue
  event : (asked : EventValue) → CommandValue
  question : (node : ℕ) (asked : QuestionValue) → CommandValue

-- a question of the code, without where its texts lie in memory
abbrev pub question_value : Question → QuestionValue
question_value questions.List = list
question_value questions.Report = report
question_value (questions.Rights name term node) = rights (name.now) term node
question_value (questions.Spent name term) = spent (name.now) term
question_value (questions.Hits name) = hits (name.now)

-- the same of a command
abbrev pub command_value : Command → CommandValue
command_value (commands.Nodes count cap) = nodes count cap
command_value (commands.Event asked) = event (event_value asked)
command_value (commands.Question node asked) = question node (question_value asked)

-- `nodes <n> <cap>`
abbrev pub nodes_in : List ℕ → Option CommandValue
nodes_in rest = do
  count ← byte_cut_of rest
  cap ← word_of (count.1)
  Some (nodes (count.0) cap)

-- `<word> <node> <rest>`: a call of a node that takes no random draws, and makes and takes no message
abbrev pub call_in : List ℕ → List ℕ → Option CommandValue
call_in word rest = do
  node ← byte_cut_of rest
  ask ← call_after word (node.1)
  Some (event (calls (node.0) ask []))

-- numbers, where each field is one
abbrev pub words_of : List (List ℕ) → Option (List ℕ)
words_of [] = Some []
words_of (field ∷ fields) = do
  word ← word_of field
  words ← words_of fields
  Some (word ∷ words)

-- `pass <node> <name>[ <word>]...`, whose name ends at the first space, if there is one
abbrev pub pass_with : ℕ → Option (List ℕ) → Option (List ℕ) → Option CommandValue
pass_with node name words = do
  name ← name
  words ← words
  Some (event (calls node (passes name) words))

abbrev pub pass_parts : ℕ → List ℕ → Option (List ℕ × List ℕ) → Option CommandValue
pass_parts node rest None = pass_with node (field_of rest) (Some [])
pass_parts node rest (Some parts) =
    pass_with node (field_of (parts.0)) (words_of (fields_of (parts.1)))

abbrev pub pass_in : List ℕ → Option CommandValue
pass_in rest = do
  node ← byte_cut_of rest
  pass_parts (node.0) (node.1) (cut_of (node.1))

-- `emit <node> <to>`
abbrev pub emit_in : List ℕ → Option CommandValue
emit_in rest = do
  node ← byte_cut_of rest
  to ← byte_of (node.1)
  Some (event (calls (node.0) (emits to) []))

-- `deliver <node> <message>`
abbrev pub deliver_in : List ℕ → Option CommandValue
deliver_in rest = do
  node ← byte_cut_of rest
  message ← word_of (node.1)
  Some (event (delivers (node.0) message))

-- `list <node>`
abbrev pub list_in : List ℕ → Option CommandValue
list_in rest = do
  node ← byte_of rest
  Some (question node list)

-- `report <node>`
abbrev pub report_in : List ℕ → Option CommandValue
report_in rest = do
  node ← byte_of rest
  Some (question node report)

-- `rights <node> <name> <term> <of>`
abbrev pub rights_in : List ℕ → Option CommandValue
rights_in rest = do
  node ← byte_cut_of rest
  name ← field_cut_of (node.1)
  term ← byte_cut_of (name.1)
  of ← byte_of (term.1)
  Some (question (node.0) (rights (name.0) (term.0) of))

-- `spent <node> <name> <term>`
abbrev pub spent_in : List ℕ → Option CommandValue
spent_in rest = do
  node ← byte_cut_of rest
  name ← field_cut_of (node.1)
  term ← byte_of (name.1)
  Some (question (node.0) (spent (name.0) term))

-- `hits <node> <name>`
abbrev pub hits_in : List ℕ → Option CommandValue
hits_in rest = do
  node ← byte_cut_of rest
  name ← field_of (node.1)
  Some (question (node.0) (hits name))

-- by the line's first word, what follows it; but for a pass
abbrev pub plain_command_after : List ℕ → List ℕ → Option CommandValue
plain_command_after word rest =
    if bytes_eq word (codes "emit") then emit_in rest else
    (if bytes_eq word (codes "deliver") then deliver_in rest else
    (if bytes_eq word (codes "list") then list_in rest else
    (if bytes_eq word (codes "report") then report_in rest else
    (if bytes_eq word (codes "rights") then rights_in rest else
    (if bytes_eq word (codes "spent") then spent_in rest else
    (if bytes_eq word (codes "hits") then hits_in rest else
    (if bytes_eq word (codes "nodes") then nodes_in rest else call_in word rest)))))))

-- the same of any
abbrev pub command_after : List ℕ → List ℕ → Option CommandValue
command_after word rest =
    if bytes_eq word (codes "pass") then pass_in rest else plain_command_after word rest

-- what a line asks for, where it has one of the forms
abbrev pub command_of : List ℕ → Option CommandValue
command_of line = do
  parts ← cut_of line
  command_after (parts.0) (parts.1)
