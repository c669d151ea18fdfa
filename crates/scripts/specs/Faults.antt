-- What is wrong with a line of a script, in words.
use Rattle.std.specs.Prelude.{ℕ, ◌-◌, ◌==◌, Bool, List, [], ◌∷◌, ◌++◌, length, is_some, slice_get, slice_index, if◌then◌else◌, Option, Some, None, codes, decimal}
use Rattle.std.specs.Str.{bytes_eq, is_utf8}
use Rattle.actions.specs.Names.{is_name}
use Rattle.cluster_model.specs.Events.{WorldValue}
use Rattle.node_core.specs.Traces.{Kept, state_known}
use Rattle.operations.specs.Operations.{count_of}
use Rattle.replica_state.specs.States.{State}
use Rattle.stamp_register.specs.Keys.{KeyValue}
use Rattle.streams.specs.Fields.{first_word}
use Rattle.scripts.specs.Script.{after_line}
use Rattle.scripts.specs.Commands.{CommandValue, nodes, event, question, QuestionValue, list, report, rights, spent, hits}

-- ---- a line that prints `bad line`

-- how a line of this question is written, or what only a script that is checked has, or that no line starts with this
-- word
abbrev pub question_form : List ℕ → List ℕ
question_form word =
    if bytes_eq word (codes "list") then codes "list <node>" else
    (if bytes_eq word (codes "report") then codes "report <node>" else
    (if bytes_eq word (codes "rights") then codes "rights <node> <name> <term> <of>" else
    (if bytes_eq word (codes "spent") then codes "spent <node> <name> <term>" else
    (if bytes_eq word (codes "hits") then codes "hits <node> <name>" else
    (if bytes_eq word (codes "expect") then codes "expect <text> needs --check"
    else codes "no line starts with this word")))))

-- the same of any line
abbrev pub form_of : List ℕ → List ℕ
form_of word =
    if bytes_eq word (codes "nodes") then codes "nodes <n> <cap>" else
    (if bytes_eq word (codes "set") then codes "set <node> <name> <actions>" else
    (if bytes_eq word (codes "remove") then codes "remove <node> <name>" else
    (if bytes_eq word (codes "load") then codes "load <node> <entries>" else
    (if bytes_eq word (codes "pass") then codes "pass <node> <name>[ <draw>]..." else
    (if bytes_eq word (codes "shift") then codes "shift <node> <name> <term> <to> <amount>" else
    (if bytes_eq word (codes "grant") then codes "grant <node> <name> <term> <amount>" else
    (if bytes_eq word (codes "emit") then codes "emit <node> <to>" else
    (if bytes_eq word (codes "deliver") then codes "deliver <node> <message>" else question_form word))))))))

-- the last byte is a carriage return
abbrev pub ends_with_return : List ℕ → Bool
ends_with_return line = slice_index line (length line - 1) == 13

-- what was wanted of a line that has none of the forms
abbrev pub wanted_in : List ℕ → List ℕ
wanted_in line =
    if ends_with_return line then codes "it ends with a carriage return" else
    (if is_utf8 line then form_of (first_word line) else codes "it isn't UTF-8")

-- why a line that asks for this is bad, if it is: a cluster is made once, and before that nothing else is answered
abbrev pub why_bad : Option WorldValue → List ℕ → Option CommandValue → Option (List ℕ)
why_bad w line None = Some (wanted_in line)
why_bad None line (Some (nodes count cap)) = None
why_bad None line (Some (event e)) = Some (codes "nodes <n> <cap> comes first")
why_bad None line (Some (question node asked)) = Some (codes "nodes <n> <cap> comes first")
why_bad (Some w) line (Some (nodes count cap)) = Some (codes "there is already a nodes line")
why_bad (Some w) line (Some (event e)) = None
why_bad (Some w) line (Some (question node asked)) = None

-- ---- a question about what isn't there

-- what a state has of a name; a text that is no name names nothing
abbrev pub key_named : State → List ℕ → Option KeyValue
key_named v name = if is_name name then v.key name else None

abbrev pub no_point : Option KeyValue → Option (List ℕ)
no_point None = Some (codes "the node knows no point of this name")
no_point (Some key) = None

abbrev pub no_term : ℕ → Option KeyValue → Option (List ℕ)
no_term term None = no_point None
no_term term (Some key) =
    if is_some (count_of key term) then None else Some (codes "the point has no counted term of this number")

abbrev pub no_node : ℕ → Option Kept → Option (List ℕ)
no_node node None = Some (codes "there is no node of this number")
no_node node (Some k) = None

-- the first reason, if there is one
abbrev pub first_of_both : Option (List ℕ) → Option (List ℕ) → Option (List ℕ)
first_of_both None other = other
first_of_both (Some why) other = Some why

-- in what a node knows, and a node of the cluster
abbrev pub missing_at : WorldValue → Kept → QuestionValue → Option (List ℕ)
missing_at w k list = None
missing_at w k report = None
missing_at w k (rights name term node) =
    first_of_both (no_term term (key_named (state_known k) name)) (no_node node (slice_get w.nodes node))
missing_at w k (spent name term) = no_term term (key_named (state_known k) name)
missing_at w k (hits name) = no_point (key_named (state_known k) name)

-- a question to a node that isn't there is refused
abbrev pub missing_of : WorldValue → Option Kept → QuestionValue → Option (List ℕ)
missing_of w None asked = None
missing_of w (Some k) asked = missing_at w k asked

abbrev pub why_missing : Option WorldValue → Option CommandValue → Option (List ℕ)
why_missing None command = None
why_missing (Some w) None = None
why_missing (Some w) (Some (nodes count cap)) = None
why_missing (Some w) (Some (event e)) = None
why_missing (Some w) (Some (question node asked)) = missing_of w (slice_get w.nodes node) asked

-- ---- what is said, a line each

-- of a line, by its number
abbrev pub said_of : ℕ → List ℕ → List (List ℕ)
said_of number what = (codes "line " ++ decimal number ++ codes ": " ++ what) ∷ []

abbrev pub bad_said : ℕ → Option (List ℕ) → List (List ℕ)
bad_said number None = []
bad_said number (Some why) = said_of number (codes "bad line: " ++ why)

abbrev pub missing_said : ℕ → Option (List ℕ) → List (List ℕ)
missing_said number None = []
missing_said number (Some why) = said_of number why

-- of lines, in their order, by a state that goes from line to line, and of what is left behind the last
abbrev pub said_by : {S A : Type 0} → (Option WorldValue → S → List ℕ → List A) → (Option WorldValue → S → List ℕ → S) →
    (S → List A) → Option WorldValue → S → List (List ℕ) → List A
said_by said next left w s [] = left s
said_by said next left w s (line ∷ lines) =
    said w s line ++ said_by said next left (after_line w line) (next w s line) lines
