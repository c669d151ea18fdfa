-- What a script of threads is, as a grammar: a plan's lines, in their order, among lines that are skipped.
use Rattle.std.specs.Prelude.{◌≡◌, ℕ, ◌+◌, ◌<◌, ◌≤◌, ◌^◌, ◌⊎◌, List, [], ◌∷◌, ◌++◌, length, map, flat_map, take, if◌then◌else◌, Option, Some, None}
use Rattle.std.specs.List.{AllByRecursion}
use Rattle.message_format.specs.Limits.{max_nodes}
use Rattle.streams.specs.Fields.{lines_of}
use Rattle.streams.specs.Lines.{is_skipped}
use Rattle.thread_plans.specs.declared.plan.RoundKind.TheVariants as kinds
use Rattle.thread_plans.specs.declared.plan.Rounds.{Rounds}
use Rattle.thread_plans.specs.Lines.{LineValue, StartValue, nodes_line, seed_line, start_line, gossip_line, worker_line, calls_line, line_in}
use Rattle.thread_plans.specs.Plans.{BlockValue, PlanValue, blocks_at, calls_in, line_count, most_blocks}

-- a worker, and its calls
abbrev pub block_lines : BlockValue → List LineValue
block_lines b = worker_line b.node ∷ map (λ l. calls_line l.0 l.1) b.lines

abbrev pub start_lines : List (ℕ × StartValue) → List LineValue
start_lines starts = map (λ s. start_line s.0 s.1) starts

abbrev pub gossip_lines : Option Rounds → List LineValue
gossip_lines None = []
gossip_lines (Some rounds) = gossip_line rounds.count ∷ []

-- rounds that begin with the messages: no line of a plan asks for others
abbrev pub AreTelling : Option Rounds → Type 0
AreTelling None = Unit {0}
AreTelling (Some rounds) = rounds.kind ≡ kinds.Telling

-- the nodes, the seed, what is done before the workers, gossip if there is any, and the workers
abbrev pub plan_lines : PlanValue → List LineValue
plan_lines p =
    nodes_line p.nodes p.cap ∷ seed_line p.seed ∷
    (start_lines p.starts ++ (gossip_lines p.gossip ++ flat_map block_lines p.blocks))

-- a block is at a node that there is, and has fewer than 2^32 calls
abbrev pub IsBlock : ℕ → BlockValue → Type 0
IsBlock nodes b = (b.node < nodes) × (calls_in b < 2 ^ 32)

-- there are 1 to 32 nodes; what is done before the workers is done at one of them; and a node has few blocks
pub record IsPlan (p : PlanValue) : Type 0 where
  pub some_nodes : 1 ≤ p.nodes
  pub few_nodes : p.nodes ≤ max_nodes
  pub starts : AllByRecursion (λ s. s.0 < p.nodes) p.starts
  pub telling : AreTelling p.gossip
  pub blocks : AllByRecursion (IsBlock p.nodes) p.blocks
  pub few_blocks : (node : ℕ) → blocks_at p node ≤ most_blocks

-- what each line says that isn't skipped, if it has one of the forms
abbrev pub said : List (List ℕ) → List (Option LineValue)
said [] = []
said (line ∷ lines) = if is_skipped line then said lines else line_in line ∷ said lines

-- lines are those of a plan
abbrev pub ArePlan : List (List ℕ) → PlanValue → Type 0
ArePlan lines p = IsPlan p × (said lines ≡ map (λ line. Some line) (plan_lines p))

-- a text is a script of this plan
abbrev pub IsScriptOf : List ℕ → PlanValue → Type 0
IsScriptOf text p = ArePlan (lines_of text) p

-- ---- the line that is refused

-- some plan begins with these lines
abbrev pub BeginPlan : List (List ℕ) → Type 0
BeginPlan lines = (more : List (List ℕ)) × (p : PlanValue) × ArePlan (lines ++ more) p

-- the line behind the first n is the first with which no plan goes on
pub record IsFirstBad (lines : List (List ℕ)) (n : ℕ) : Type 0 where
  pub there : n < length lines
  pub before : BeginPlan (take n lines)
  pub bad : BeginPlan (take (n + 1) lines) → ⊥

-- a plan begins with all lines, and they are none yet
pub record EndEarly (lines : List (List ℕ)) : Type 0 where
  pub begun : BeginPlan lines
  pub none : (p : PlanValue) → ArePlan lines p → ⊥

-- the line of this number is refused, counted from 1: the first with which no plan goes on; or, where the script ends
-- early, the one behind the last
abbrev pub IsRefusedAt : List ℕ → ℕ → Type 0
IsRefusedAt text number =
    ((n : ℕ) × (number ≡ n + 1) × IsFirstBad (lines_of text) n)
    ⊎ ((number ≡ line_count text + 1) × EndEarly (lines_of text))
