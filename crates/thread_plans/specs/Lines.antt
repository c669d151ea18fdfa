-- What each line of a script of threads says.
use Rattle.std.specs.Prelude.{ℕ, List, Option, Some, None, option_map, Result, Ok, Err, if◌then◌else◌, codes}
use Rattle.std.specs.Str.{bytes_eq}
use Rattle.hex.specs.Hex.{decode_sized}
use Rattle.hex.specs.declared.error.FromHexError.{FromHexError}
use Rattle.node_calls.specs.Told.{AskTold, ask_ref_told, passes}
use Rattle.decimals.specs.Decimals.{byte_of, word_of, number_of}
use Rattle.streams.specs.Fields.{cut_of, field_of, field_cut_of, byte_cut_of}
use Rattle.streams.specs.Lines.{◌>>=◌, text_in}
use Rattle.thread_plans.specs.declared.line.Line.{Line}
use Rattle.thread_plans.specs.declared.line.Line.TheVariants as lines
use Rattle.thread_plans.specs.declared.line.Start.{Start}
use Rattle.thread_plans.specs.declared.line.Start.TheVariants as starts
use Rattle.call_lines.specs.Calls.{call_after}

-- what a node does before the workers start: it makes a call, or spreads its rights to a point
pub data StartValue : Type 0 where
  makes : (ask : AskTold) → StartValue
  spreads : (name : List ℕ) → StartValue

-- the same of the code's, without where its texts lie in memory
abbrev pub start_value : Start → StartValue
start_value (starts.Call call) = makes (ask_ref_told call)
start_value (starts.Spread name) = spreads (name.now)

-- so many nodes, each of which accepts so many calls; the seed of their words; what a node does before the workers
-- start; so many rounds of gossip; a block of calls of one worker at a node; or a call of the worker, so many times
pub data LineValue : Type 0 where
  nodes_line : (count cap : ℕ) → LineValue
  seed_line : (bytes : List ℕ) → LineValue
  start_line : (node : ℕ) (start : StartValue) → LineValue
  gossip_line : (rounds : ℕ) → LineValue
  worker_line : (node : ℕ) → LineValue
  calls_line : (call : AskTold) (times : ℕ) → LineValue

-- a line of the code, without where its texts lie in memory
abbrev pub line_value : Line → LineValue
line_value (lines.Nodes count cap) = nodes_line count cap
line_value (lines.Seed bytes) = seed_line bytes
line_value (lines.Start node start) = start_line node (start_value start)
line_value (lines.Gossip rounds) = gossip_line rounds
line_value (lines.Worker node) = worker_line node
line_value (lines.Calls call times) = calls_line (ask_ref_told call) times

-- `nodes <n> <cap>`
abbrev pub nodes_in : List ℕ → Option LineValue
nodes_in rest = do
  count ← byte_cut_of rest
  cap ← word_of (count.1)
  Some (nodes_line (count.0) cap)

abbrev pub seed_read : Result (List ℕ) FromHexError → Option LineValue
seed_read (Ok bytes) = Some (seed_line bytes)
seed_read (Err fault) = None

-- `seed <64 hexadecimal digits>`, which are 32 bytes
abbrev pub seed_in : List ℕ → Option LineValue
seed_in rest = seed_read (decode_sized rest 32)

-- `<word> <node> <rest>`, as in a script of calls: of the calls that need no words and make and take no message
abbrev pub start_call_in : List ℕ → List ℕ → Option LineValue
start_call_in word rest = do
  node ← byte_cut_of rest
  call ← call_after word (node.1)
  Some (start_line (node.0) (makes call))

-- `<node> <name>`
abbrev pub spread_in : List ℕ → Option LineValue
spread_in rest = do
  node ← byte_cut_of rest
  name ← field_of (node.1)
  Some (start_line (node.0) (spreads name))

-- `start ` before a line of a script of calls, or before `spread <node> <name>`
abbrev pub start_in : List ℕ → Option LineValue
start_in rest = do
  parts ← cut_of rest
  if bytes_eq (parts.0) (codes "spread") then spread_in (parts.1) else start_call_in (parts.0) (parts.1)

-- `gossip <rounds>`
abbrev pub gossip_in : List ℕ → Option LineValue
gossip_in rest = do
  rounds ← word_of rest
  Some (gossip_line rounds)

-- `worker <node>`
abbrev pub worker_in : List ℕ → Option LineValue
worker_in rest = do
  node ← byte_of rest
  Some (worker_line node)

abbrev pub once : AskTold → LineValue
once call = calls_line call 1

-- up to 65535, also 0
abbrev pub times_of : List ℕ → Option ℕ
times_of text = number_of 65535 text

-- `pass <name> <times>`
abbrev pub pass_in : List ℕ → Option LineValue
pass_in rest = do
  name ← field_cut_of rest
  times ← times_of (name.1)
  Some (calls_line (passes (name.0)) times)

-- by the line's first word, what follows it
abbrev pub line_after : List ℕ → List ℕ → Option LineValue
line_after word rest =
    if bytes_eq word (codes "nodes") then nodes_in rest else
    (if bytes_eq word (codes "seed") then seed_in rest else
    (if bytes_eq word (codes "start") then start_in rest else
    (if bytes_eq word (codes "gossip") then gossip_in rest else
    (if bytes_eq word (codes "worker") then worker_in rest else
    (if bytes_eq word (codes "pass") then pass_in rest else option_map once (call_after word rest))))))

-- what a line says, where it has one of the forms
abbrev pub line_of : List ℕ → Option LineValue
line_of line = do
  parts ← cut_of line
  line_after (parts.0) (parts.1)

-- the same of bytes, which have to be text
abbrev pub line_in : List ℕ → Option LineValue
line_in line = text_in line >>= line_of
