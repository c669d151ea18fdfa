-- What was wanted of a line that is bad, in words.
use Rattle.std.specs.Prelude.{ℕ, ◌-◌, ◌==◌, Bool, List, [], length, slice_index, nat_lt, if◌then◌else◌, Option, Some, None, codes}
use Rattle.std.specs.Option.{option_map_or}
use Rattle.std.specs.Str.{bytes_eq, is_utf8}
use Rattle.streams.specs.Fields.{cut_of, first_word}
use Rattle.thread_plans.specs.Lines.{LineValue, nodes_line, seed_line, start_line, gossip_line, worker_line, calls_line, line_in}
use Rattle.thread_plans.specs.Plans.{PlanValue, StageValue, empty, sized, started, working}

-- ---- a line that has none of the forms

-- what stands behind the first space, or nothing
abbrev pub later_words : List ℕ → List ℕ
later_words text = option_map_or (λ parts. parts.1) (cut_of text) []

-- what of a line that only a script that is checked has, or that no line starts with this word
abbrev pub checked_form : List ℕ → List ℕ
checked_form word =
    if bytes_eq word (codes "await") then codes "await <name>[ <stamp>] needs --check" else
    (if bytes_eq word (codes "expect") then codes "expect <text> needs --check"
    else codes "no line starts with this word")

-- how a call of a worker is written, or what else
abbrev pub call_form : List ℕ → List ℕ
call_form word =
    if bytes_eq word (codes "set") then codes "set <name> <actions>" else
    (if bytes_eq word (codes "remove") then codes "remove <name>" else
    (if bytes_eq word (codes "load") then codes "load <entries>" else
    (if bytes_eq word (codes "shift") then codes "shift <name> <term> <to> <amount>" else
    (if bytes_eq word (codes "grant") then codes "grant <name> <term> <amount>" else
    (if bytes_eq word (codes "pass") then codes "pass <name> <times>" else checked_form word)))))

-- how a line is written whose second word this is, behind `start`
abbrev pub start_form : List ℕ → List ℕ
start_form word =
    if bytes_eq word (codes "set") then codes "start set <node> <name> <actions>" else
    (if bytes_eq word (codes "remove") then codes "start remove <node> <name>" else
    (if bytes_eq word (codes "load") then codes "start load <node> <entries>" else
    (if bytes_eq word (codes "shift") then codes "start shift <node> <name> <term> <to> <amount>" else
    (if bytes_eq word (codes "grant") then codes "start grant <node> <name> <term> <amount>" else
    (if bytes_eq word (codes "spread") then codes "start spread <node> <name>"
    else codes "start must be followed by set, remove, load, shift, grant or spread")))))

-- the same of any line, whose second word counts only behind `start`
abbrev pub line_form : List ℕ → List ℕ → List ℕ
line_form word second =
    if bytes_eq word (codes "nodes") then codes "nodes <n> <cap>" else
    (if bytes_eq word (codes "seed") then codes "seed <64 hexadecimal digits>" else
    (if bytes_eq word (codes "start") then start_form second else
    (if bytes_eq word (codes "gossip") then codes "gossip <rounds>" else
    (if bytes_eq word (codes "worker") then codes "worker <node>" else call_form word))))

abbrev pub form_of : List ℕ → List ℕ
form_of text = line_form (first_word text) (first_word (later_words text))

-- the last byte is a carriage return
abbrev pub ends_with_return : List ℕ → Bool
ends_with_return line = slice_index line (length line - 1) == 13

abbrev pub wanted_in : List ℕ → List ℕ
wanted_in line =
    if ends_with_return line then codes "it ends with a carriage return" else
    (if is_utf8 line then form_of line else codes "it isn't UTF-8")

-- ---- a line out of its place

abbrev pub no_node : List ℕ
no_node = codes "there is no node of this number"

-- before the nodes are known
abbrev pub wanted_first : LineValue → List ℕ
wanted_first (nodes_line count cap) = codes "there are 1 to 32 nodes"
wanted_first _ = codes "nodes <n> <cap> comes first"

-- of a worker, behind the seed
abbrev pub wanted_of_worker : ℕ → ℕ → List ℕ
wanted_of_worker nodes node = if nat_lt node nodes then codes "a node has 250 workers at most" else no_node

-- before the first worker
abbrev pub wanted_of_started : PlanValue → LineValue → List ℕ
wanted_of_started p (nodes_line count cap) = codes "there is already a nodes line"
wanted_of_started p (seed_line bytes) = codes "there is already a seed line"
wanted_of_started p (start_line node start) =
    if nat_lt node p.nodes then codes "start lines come before gossip" else no_node
wanted_of_started p (gossip_line rounds) = codes "there is one gossip line at most"
wanted_of_started p (worker_line node) = wanted_of_worker p.nodes node
wanted_of_started p (calls_line call times) = codes "worker <node> comes before its calls"

-- behind one
abbrev pub wanted_of_working : PlanValue → LineValue → List ℕ
wanted_of_working p (nodes_line count cap) = codes "there is already a nodes line"
wanted_of_working p (seed_line bytes) = codes "there is already a seed line"
wanted_of_working p (start_line node start) = codes "start lines come before the workers"
wanted_of_working p (gossip_line rounds) = codes "gossip comes before the workers"
wanted_of_working p (worker_line node) = wanted_of_worker p.nodes node
wanted_of_working p (calls_line call times) = codes "a worker makes 4294967295 calls at most"

abbrev pub wanted_there : StageValue → LineValue → List ℕ
wanted_there empty line = wanted_first line
wanted_there (sized n cap) line = codes "seed <64 hexadecimal digits> comes next"
wanted_there (started p) line = wanted_of_started p line
wanted_there (working p b) line = wanted_of_working p line

-- ---- any bad line

abbrev pub wanted_of : StageValue → List ℕ → Option LineValue → List ℕ
wanted_of s line None = wanted_in line
wanted_of s line (Some read) = wanted_there s read

-- of a line that is bad behind these, in its place or out of it
abbrev pub wanted : StageValue → List ℕ → List ℕ
wanted s line = wanted_of s line (line_in line)

-- of the end of a script that stops early, if this one does
abbrev pub wanted_at_end : StageValue → Option (List ℕ)
wanted_at_end empty = Some (codes "nodes <n> <cap> comes first")
wanted_at_end (sized n cap) = Some (codes "seed <64 hexadecimal digits> comes next")
wanted_at_end (started p) = None
wanted_at_end (working p b) = None
