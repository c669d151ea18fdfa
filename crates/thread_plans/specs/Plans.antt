-- What the lines of a script of threads come to: a plan, or the first line that is bad.
use Rattle.std.specs.Prelude.{ℕ, ◌+◌, ◌-◌, ◌^◌, Bool, ◌&&◌, ◌||◌, ◌==◌, List, [], ◌∷◌, ◌++◌, length, map, count_by, slice_index, nat_le, nat_lt, if◌then◌else◌, Option, Some, None, option_map, Result, Ok, Err}
use Rattle.std.specs.List.{sum_by}
use Rattle.std.specs.Option.{is_none}
use Rattle.message_format.specs.Limits.{max_nodes}
use Rattle.node_calls.specs.Told.{AskTold, ask_ref_told}
use Rattle.streams.specs.Fields.{newline, lines_of}
use Rattle.streams.specs.Lines.{is_skipped}
use Rattle.thread_plans.specs.declared.plan.Block.{Block}
use Rattle.thread_plans.specs.declared.plan.CallLine.{CallLine}
use Rattle.thread_plans.specs.declared.plan.RoundKind.TheVariants as kinds
use Rattle.thread_plans.specs.declared.plan.Rounds.{Rounds}
use Rattle.thread_plans.specs.declared.plan.StartLine.{StartLine}
use Rattle.thread_plans.specs.declared.plan.ThreadPlan.{ThreadPlan}
use Rattle.thread_plans.specs.declared.stage.Stage.{Stage}
use Rattle.thread_plans.specs.declared.stage.Stage.TheVariants as stages
use Rattle.thread_plans.specs.Lines.{LineValue, StartValue, start_value, nodes_line, seed_line, start_line, gossip_line, worker_line, calls_line, line_in}

-- the lines of a worker: each a call, with how often it is made
pub record BlockValue : Type 0 where
  pub node : ℕ
  pub lines : List (AskTold × ℕ)

pub record PlanValue : Type 0 where
  pub nodes : ℕ
  pub cap : ℕ
  pub seed : List ℕ
  pub starts : List (ℕ × StartValue)
  pub gossip : Option Rounds
  pub blocks : List BlockValue

-- ---- the same of the code's values

abbrev pub call_line_value : CallLine → AskTold × ℕ
call_line_value l = (ask_ref_told l.call, l.times)

abbrev pub block_value : Block → BlockValue
block_value b = record { node = b.node; lines = map call_line_value b.lines.items }

abbrev pub start_line_value : StartLine → ℕ × StartValue
start_line_value s = (s.node, start_value s.start)

abbrev pub plan_value : ThreadPlan → PlanValue
plan_value p = record {
  nodes = p.size.nodes;
  cap = p.size.trace_cap;
  seed = p.seed;
  starts = map start_line_value p.starts.items;
  gossip = p.gossip;
  blocks = map block_value p.blocks.items;
}

-- ---- what lines come to

-- before `nodes`; before `seed`; before the first `worker`; and behind one, with the last block apart
pub data StageValue : Type 0 where
  empty : StageValue
  sized : (nodes cap : ℕ) → StageValue
  started : (plan : PlanValue) → StageValue
  working : (plan : PlanValue) (last : BlockValue) → StageValue

abbrev pub stage_value : Stage → StageValue
stage_value stages.Empty = empty
stage_value (stages.Sized size) = sized size.nodes size.trace_cap
stage_value (stages.Started plan) = started (plan_value plan)
stage_value (stages.Working work) = working (plan_value work.plan) (block_value work.last)

abbrev pub new_plan : ℕ → ℕ → List ℕ → PlanValue
new_plan nodes cap bytes = record { nodes = nodes; cap = cap; seed = bytes; starts = []; gossip = None; blocks = [] }

abbrev pub with_start : PlanValue → ℕ → StartValue → PlanValue
with_start p node start = record p { starts = p.starts ++ (node, start) ∷ [] }

-- so many rounds that begin with the messages
abbrev pub telling : ℕ → Rounds
telling rounds = record { count = rounds; kind = kinds.Telling }

abbrev pub with_gossip : PlanValue → ℕ → PlanValue
with_gossip p rounds = record p { gossip = Some (telling rounds) }

abbrev pub with_block : PlanValue → BlockValue → PlanValue
with_block p b = record p { blocks = p.blocks ++ b ∷ [] }

-- the blocks of a node
abbrev pub blocks_at : PlanValue → ℕ → ℕ
blocks_at p node = count_by (λ b. b.node == node) p.blocks

-- the calls of a block
abbrev pub calls_in : BlockValue → ℕ
calls_in b = sum_by (λ l. l.1) b.lines

abbrev pub most_blocks : ℕ
most_blocks = 250

-- a block begins at a node that there is, and that has fewer than the most blocks
abbrev pub begin_block : PlanValue → ℕ → Option StageValue
begin_block p node =
    if nat_lt node p.nodes && nat_lt (blocks_at p node) most_blocks
    then Some (working p (record { node = node; lines = [] })) else None

-- a block has fewer than 2^32 calls
abbrev pub add_calls : PlanValue → BlockValue → AskTold → ℕ → Option StageValue
add_calls p b call times =
    if nat_lt (calls_in b + times) (2 ^ 32)
    then Some (working p (record b { lines = b.lines ++ (call, times) ∷ [] })) else None

abbrev pub after_empty : LineValue → Option StageValue
after_empty (nodes_line count cap) = if nat_le 1 count && nat_le count max_nodes then Some (sized count cap) else None
after_empty (seed_line bytes) = None
after_empty (start_line node start) = None
after_empty (gossip_line rounds) = None
after_empty (worker_line node) = None
after_empty (calls_line call times) = None

abbrev pub after_sized : ℕ → ℕ → LineValue → Option StageValue
after_sized n cap (seed_line bytes) = Some (started (new_plan n cap bytes))
after_sized n cap (nodes_line count other) = None
after_sized n cap (start_line node start) = None
after_sized n cap (gossip_line rounds) = None
after_sized n cap (worker_line node) = None
after_sized n cap (calls_line call times) = None

-- there is one gossip line at most, and no start line behind it
abbrev pub after_started : PlanValue → LineValue → Option StageValue
after_started p (start_line node start) =
    if nat_lt node p.nodes && is_none p.gossip then Some (started (with_start p node start)) else None
after_started p (gossip_line rounds) = if is_none p.gossip then Some (started (with_gossip p rounds)) else None
after_started p (worker_line node) = begin_block p node
after_started p (nodes_line count cap) = None
after_started p (seed_line bytes) = None
after_started p (calls_line call times) = None

abbrev pub after_working : PlanValue → BlockValue → LineValue → Option StageValue
after_working p b (worker_line node) = begin_block (with_block p b) node
after_working p b (calls_line call times) = add_calls p b call times
after_working p b (nodes_line count cap) = None
after_working p b (seed_line bytes) = None
after_working p b (start_line node start) = None
after_working p b (gossip_line rounds) = None

-- a line that stands in its place
abbrev pub after_line : StageValue → LineValue → Option StageValue
after_line empty line = after_empty line
after_line (sized n cap) line = after_sized n cap line
after_line (started p) line = after_started p line
after_line (working p b) line = after_working p b line

abbrev pub after_read : StageValue → Option LineValue → Option StageValue
after_read s None = None
after_read s (Some line) = after_line s line

-- a line that is skipped changes nothing
abbrev pub after_text : StageValue → List ℕ → Option StageValue
after_text s line = if is_skipped line then Some s else after_read s (line_in line)

infixl 10 ◌>>=◌
abbrev pub ◌>>=◌ : {A B : Type 0} → Result A ℕ → (A → Result B ℕ) → Result B ℕ
(Ok x) >>= f = f x
(Err line) >>= f = Err line

-- or its number, where it isn't one
abbrev pub or_line : {A : Type 0} → ℕ → Option A → Result A ℕ
or_line number None = Err number
or_line number (Some x) = Ok x

-- what lines come to, of which the first has this number
abbrev pub stage_from : StageValue → ℕ → List (List ℕ) → Result StageValue ℕ
stage_from s number [] = Ok s
stage_from s number (line ∷ lines) = do
  next ← or_line number (after_text s line)
  stage_from next (number + 1) lines

-- how many lines a text has: what stands behind the last newline is one, where something stands there
abbrev pub ends_line : List ℕ → Bool
ends_line text = (length text == 0) || (slice_index text (length text - 1) == newline)

abbrev pub line_count : List ℕ → ℕ
line_count text = if ends_line text then length (lines_of text) - 1 else length (lines_of text)

-- the plan of lines that have all been read
abbrev pub whole_plan : StageValue → Option PlanValue
whole_plan empty = None
whole_plan (sized n cap) = None
whole_plan (started p) = Some p
whole_plan (working p b) = Some (with_block p b)

-- the plan of a script, or the number of the first line that is bad: the one behind the last, where the script ends
-- before its seed
unfoldable pub plan_in : List ℕ → Result PlanValue ℕ
plan_in text = do
  stage ← stage_from empty 1 (lines_of text)
  or_line (line_count text + 1) (whole_plan stage)
