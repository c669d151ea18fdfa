-- Lines that stand in their places are the lines of what they come to.
use Rattle.std.proofs.Common.{◌≡◌, ℕ, ◌+◌, ◌<◌, ◌≤◌, ◌^◌, ◌==◌, ◌&&◌, Bool, true, false, cond, List, [], ◌∷◌, ◌++◌, map, flat_map, count_by, Option, Some, None, refl, sym, ap, ◌∙◌, subst, arith, append_assoc, append-nil}
use Rattle.std.specs.Prelude.{option_and_then, if◌then◌else◌, nat_le, nat_lt, is_none}
use Rattle.std.specs.List.{AllByRecursion}
use Rattle.std.proofs.lemmas.Bool.{and_parts, eqb-true, leb-true, ltb-true}
use Rattle.std.proofs.lemmas.Grind.{flat_map-append}
use Rattle.std.proofs.lemmas.List.{map-append}
use Rattle.std.proofs.lemmas.List.Sums.{sum_by_push}
use Rattle.message_format.specs.Limits.{max_nodes}
use Rattle.node_calls.specs.Told.{AskTold}
use Rattle.thread_plans.specs.Lines.{LineValue, StartValue, nodes_line, seed_line, start_line, gossip_line, worker_line, calls_line}
use Rattle.thread_plans.specs.Plans.{BlockValue, PlanValue, StageValue, empty, sized, started, working, add_calls, after_line, begin_block, blocks_at, calls_in, most_blocks, new_plan, whole_plan, with_block, with_gossip, with_start}
use Rattle.thread_plans.specs.declared.plan.Rounds.{Rounds}
use Rattle.thread_plans.specs.Grammar.{IsBlock, IsPlan, block_lines, gossip_lines, plan_lines, start_lines}
use Rattle.thread_plans.proofs.Counts.{count_by-push}
use Rattle.thread_plans.proofs.Runs.{comes}

-- ---- tests

if_some : {A : Type 0} (b : Bool) (x y : A) → (if b then Some x else None) ≡ Some y → (b ≡ true) × (x ≡ y)
if_some true x y e = (refl, cc)
if_some false x y e = absurd cc

no_gossip : (gossip : Option Rounds) → is_none gossip ≡ true → gossip ≡ None
no_gossip None e = refl
no_gossip (Some rounds) e = absurd cc

All-push : {A : Type 0} (P : A → Type 0) (xs : List A) (x : A) → AllByRecursion P xs → P x →
    AllByRecursion P (xs ++ x ∷ [])
All-push P [] x all one = (one, tt)
All-push P (y ∷ xs) x all one = (all.0, All-push P xs x all.1 one)

-- ---- what was said so far

abbrev pub stage_lines : StageValue → List LineValue
stage_lines empty = []
stage_lines (sized n cap) = nodes_line n cap ∷ []
stage_lines (started p) = plan_lines p
stage_lines (working p b) = plan_lines (with_block p b)

-- a block that a plan has room for
pub record HasRoom (p : PlanValue) (b : BlockValue) : Type 0 where
  pub plan : IsPlan p
  pub block : IsBlock p.nodes b
  pub room : blocks_at p b.node < most_blocks

abbrev pub IsStage : StageValue → Type 0
IsStage empty = Unit {0}
IsStage (sized n cap) = (1 ≤ n) × (n ≤ max_nodes)
IsStage (started p) = IsPlan p × (p.blocks ≡ [])
IsStage (working p b) = HasRoom p b

-- ---- a block more

one_more : (bs : List BlockValue) (b : BlockValue) (node : ℕ) (here : Bool) → (b.node == node) ≡ here →
    count_by (λ x. x.node == node) bs ≤ most_blocks → count_by (λ x. x.node == b.node) bs < most_blocks →
    count_by (λ x. x.node == node) bs + cond here 1 0 ≤ most_blocks
one_more bs b node true e few room =
    let same : b.node ≡ node = eqb-true b.node node e in
    let less : count_by (λ x. x.node == node) bs < most_blocks =
    subst (λ (n : ℕ). count_by (λ x. x.node == n) bs < most_blocks) same room in
    omega (arith, less)
one_more bs b node false e few room = omega (arith, few)

pub is_plan-block : (p : PlanValue) (b : BlockValue) → HasRoom p b → IsPlan (with_block p b)
is_plan-block p b has = record {
  some_nodes = has.plan.some_nodes;
  few_nodes = has.plan.few_nodes;
  starts = has.plan.starts;
  telling = has.plan.telling;
  blocks = All-push (IsBlock p.nodes) p.blocks b has.plan.blocks has.block;
  few_blocks = λ node.
      let pushed : blocks_at (with_block p b) node ≡ blocks_at p node + cond (b.node == node) 1 0 =
      count_by-push (λ x. x.node == node) p.blocks b in
      let few = one_more p.blocks b node (b.node == node) refl (has.plan.few_blocks node) has.room in
      omega (arith, pushed, few);
}

pub block_behind : (p : PlanValue) (b : BlockValue) → plan_lines (with_block p b) ≡ plan_lines p ++ block_lines b
block_behind p b =
    let first : List LineValue → List LineValue = λ lines. nodes_line p.nodes p.cap ∷ seed_line p.seed ∷ lines in
    let more : flat_map block_lines (p.blocks ++ b ∷ []) ≡ flat_map block_lines p.blocks ++ block_lines b =
    flat_map-append block_lines p.blocks (b ∷ []) ∙ ap (λ lines. flat_map block_lines p.blocks ++ lines)
    (append-nil (block_lines b)) in
    ap (λ lines. first (start_lines p.starts ++ (gossip_lines p.gossip ++ lines))) more
    ∙ ap (λ lines. first (start_lines p.starts ++ lines)) (sym
    (append_assoc (gossip_lines p.gossip) (flat_map block_lines p.blocks) (block_lines b)))
    ∙ ap first (sym (append_assoc (start_lines p.starts) (gossip_lines p.gossip ++ flat_map block_lines p.blocks)
    (block_lines b)))

-- ---- one line more

-- what it comes to is lawful, and its lines are those before it and the line
pub record IsGrown (s : StageValue) (line : LineValue) (next : StageValue) : Type 0 where
  pub stage : IsStage next
  pub lines : stage_lines next ≡ stage_lines s ++ line ∷ []

size_known : (count cap : ℕ) (next : StageValue) → (if nat_le 1 count && nat_le count max_nodes then Some
    (sized count cap) else None) ≡ Some next → IsGrown empty (nodes_line count cap) next
size_known count cap next e =
    let parts = if_some (nat_le 1 count && nat_le count max_nodes) (sized count cap) next e in
    let fits = and_parts (nat_le 1 count) (nat_le count max_nodes) parts.0 in
    subst (IsGrown empty (nodes_line count cap)) parts.1 (record
    { stage = (leb-true 1 count fits.0, leb-true count max_nodes fits.1); lines = refl })

seed_known : (n cap : ℕ) (bytes : List ℕ) (next : StageValue) → IsStage (sized n cap) →
    Some (started (new_plan n cap bytes)) ≡ Some next → IsGrown (sized n cap) (seed_line bytes) next
seed_known n cap bytes next is e =
    let same : started (new_plan n cap bytes) ≡ next = cc in
    subst (IsGrown (sized n cap) (seed_line bytes)) same
    (record {
      stage = (
        record {
          some_nodes = is.0;
          few_nodes = is.1;
          starts = tt;
          telling = tt;
          blocks = tt;
          few_blocks =
              λ node. omega arith;
        },
        refl,
      );
      lines = refl;
    })

start_more : (p : PlanValue) (node : ℕ) (start : StartValue) → IsStage (started p) → node < p.nodes → p.gossip ≡ None →
    IsGrown (started p) (start_line node start) (started (with_start p node start))
start_more p node start is low none =
    let plan = is.0 in
    record {
      stage = (
        record {
          some_nodes = plan.some_nodes;
          few_nodes = plan.few_nodes;
          starts = All-push (λ s. s.0 < p.nodes) p.starts (node, start) plan.starts low;
          telling = plan.telling;
          blocks = plan.blocks;
          few_blocks = plan.few_blocks;
        },
        is.1,
      );
      lines =
          let first : List LineValue → List LineValue = λ lines. nodes_line p.nodes p.cap ∷ seed_line p.seed ∷ lines in
          let line = start_line node start in
          let rest : gossip_lines p.gossip ++ flat_map block_lines p.blocks ≡ [] =
          ap (λ g. gossip_lines g ++ flat_map block_lines p.blocks) none ∙ ap (flat_map block_lines) is.1 in
          ap (λ lines. first (lines ++ (gossip_lines p.gossip ++ flat_map block_lines p.blocks)))
          (map-append (λ (s : ℕ × StartValue). start_line s.0 s.1) p.starts ((node, start) ∷ []))
          ∙ ap (λ lines. first ((start_lines p.starts ++ line ∷ []) ++ lines)) rest
          ∙ ap first (append-nil (start_lines p.starts ++ line ∷ []))
          ∙ ap (λ lines. first (lines ++ line ∷ [])) (sym (append-nil (start_lines p.starts)))
          ∙ ap (λ lines. first ((start_lines p.starts ++ lines) ++ line ∷ [])) (sym rest);
    }

start_known : (p : PlanValue) (node : ℕ) (start : StartValue) (next : StageValue) → IsStage (started p) →
    after_line (started p) (start_line node start) ≡ Some next → IsGrown (started p) (start_line node start) next
start_known p node start next is e =
    let parts = if_some (nat_lt node p.nodes && is_none p.gossip) (started (with_start p node start)) next e in
    let fits = and_parts (nat_lt node p.nodes) (is_none p.gossip) parts.0 in
    subst (IsGrown (started p) (start_line node start)) parts.1
    (start_more p node start is (ltb-true node p.nodes fits.0) (no_gossip p.gossip fits.1))

gossip_more : (p : PlanValue) (rounds : ℕ) → IsStage (started p) → p.gossip ≡ None →
    IsGrown (started p) (gossip_line rounds) (started (with_gossip p rounds))
gossip_more p rounds is none =
    let plan = is.0 in
    record {
      stage = (
        record {
          some_nodes = plan.some_nodes;
          few_nodes = plan.few_nodes;
          starts = plan.starts;
          telling = refl;
          blocks = plan.blocks;
          few_blocks = plan.few_blocks;
        },
        is.1,
      );
      lines =
          let first : List LineValue → List LineValue = λ lines. nodes_line p.nodes p.cap ∷ seed_line p.seed ∷ lines in
          let line = gossip_line rounds in
          let rest : gossip_lines p.gossip ++ flat_map block_lines p.blocks ≡ [] =
          ap (λ g. gossip_lines g ++ flat_map block_lines p.blocks) none ∙ ap (flat_map block_lines) is.1 in
          ap (λ bs. first (start_lines p.starts ++ line ∷ flat_map block_lines bs)) is.1
          ∙ ap (λ lines. first (lines ++ line ∷ [])) (sym (append-nil (start_lines p.starts)))
          ∙ ap (λ lines. first ((start_lines p.starts ++ lines) ++ line ∷ [])) (sym rest);
    }

gossip_known : (p : PlanValue) (rounds : ℕ) (next : StageValue) → IsStage (started p) →
    after_line (started p) (gossip_line rounds) ≡ Some next → IsGrown (started p) (gossip_line rounds) next
gossip_known p rounds next is e =
    let parts = if_some (is_none p.gossip) (started (with_gossip p rounds)) next e in
    subst (IsGrown (started p) (gossip_line rounds)) parts.1 (gossip_more p rounds is (no_gossip p.gossip parts.0))

-- a worker, behind a plan's lines
block_known : (p : PlanValue) (node : ℕ) (next : StageValue) → IsPlan p → begin_block p node ≡ Some next →
    IsStage next × (stage_lines next ≡ plan_lines p ++ worker_line node ∷ [])
block_known p node next plan e =
    let b : BlockValue = record { node = node; lines = [] } in
    let parts = if_some (nat_lt node p.nodes && nat_lt (blocks_at p node) most_blocks)
    (working p (record { node = node; lines = [] })) next e in
    let fits = and_parts (nat_lt node p.nodes) (nat_lt (blocks_at p node) most_blocks) parts.0 in
    subst (λ (s : StageValue). IsStage s × (stage_lines s ≡ plan_lines p ++ worker_line node ∷ [])) parts.1 (
      record {
        plan = plan;
        block = (ltb-true node p.nodes fits.0, omega arith);
        room =
            ltb-true (blocks_at p node) most_blocks fits.1;
      },
      block_behind p (record { node = node; lines = [] }),
    )

calls_more : (p : PlanValue) (b : BlockValue) (call : AskTold) (times : ℕ) → HasRoom p b → calls_in b + times < 2 ^ 32
    → IsGrown (working p b) (calls_line call times) (working p (record b { lines = b.lines ++ (call, times) ∷ [] }))
calls_more p b call times has few =
    let longer : BlockValue = record b { lines = b.lines ++ (call, times) ∷ [] } in
    let counted : calls_in (record b { lines = b.lines ++ (call, times) ∷ [] }) ≡ calls_in b + times =
    sum_by_push (λ (l : AskTold × ℕ). l.1) b.lines (call, times) in
    record {
      stage = record { plan = has.plan; block = (has.block.0, omega (arith, counted, few)); room = has.room };
      lines =
          block_behind p (record b { lines = b.lines ++ (call, times) ∷ [] })
          ∙ ap (λ lines. plan_lines p ++ worker_line b.node ∷ lines)
          (map-append (λ (l : AskTold × ℕ). calls_line l.0 l.1) b.lines ((call, times) ∷ []))
          ∙ sym (append_assoc (plan_lines p) (block_lines b) (calls_line call times ∷ []))
          ∙ ap (λ lines. lines ++ calls_line call times ∷ []) (sym (block_behind p b));
    }

calls_known : (p : PlanValue) (b : BlockValue) (call : AskTold) (times : ℕ) (next : StageValue) → HasRoom p b →
    add_calls p b call times ≡ Some next → IsGrown (working p b) (calls_line call times) next
calls_known p b call times next has e =
    let parts = if_some (nat_lt (calls_in b + times) (2 ^ 32))
    (working p (record b { lines = b.lines ++ (call, times) ∷ [] })) next e in
    subst (IsGrown (working p b) (calls_line call times)) parts.1
    (calls_more p b call times has (ltb-true (calls_in b + times) (2 ^ 32) parts.0))

pub grown : (s : StageValue) (line : LineValue) (next : StageValue) → IsStage s → after_line s line ≡ Some next →
    IsGrown s line next
grown empty (nodes_line count cap) next is e = size_known count cap next e
grown empty (seed_line bytes) next is e = absurd cc
grown empty (start_line node start) next is e = absurd cc
grown empty (gossip_line rounds) next is e = absurd cc
grown empty (worker_line node) next is e = absurd cc
grown empty (calls_line call times) next is e = absurd cc
grown (sized n cap) (nodes_line count other) next is e = absurd cc
grown (sized n cap) (seed_line bytes) next is e = seed_known n cap bytes next is e
grown (sized n cap) (start_line node start) next is e = absurd cc
grown (sized n cap) (gossip_line rounds) next is e = absurd cc
grown (sized n cap) (worker_line node) next is e = absurd cc
grown (sized n cap) (calls_line call times) next is e = absurd cc
grown (started p) (nodes_line count cap) next is e = absurd cc
grown (started p) (seed_line bytes) next is e = absurd cc
grown (started p) (start_line node start) next is e = start_known p node start next is e
grown (started p) (gossip_line rounds) next is e = gossip_known p rounds next is e
grown (started p) (worker_line node) next is e = let so = block_known p node next is.0 e in
    record { stage = so.0; lines = so.1 }
grown (started p) (calls_line call times) next is e = absurd cc
grown (working p b) (nodes_line count cap) next is e = absurd cc
grown (working p b) (seed_line bytes) next is e = absurd cc
grown (working p b) (start_line node start) next is e = absurd cc
grown (working p b) (gossip_line rounds) next is e = absurd cc
grown (working p b) (worker_line node) next is e = let so = block_known (with_block p b) node next
    (is_plan-block p b is) e in record { stage = so.0; lines = so.1 }
grown (working p b) (calls_line call times) next is e = calls_known p b call times next is e

-- ---- all lines

-- they say so much, and what they come to is lawful and has these lines
pub record AreSpelled (s : StageValue) (lines : List (Option LineValue)) (end : StageValue) : Type 0 where
  pub values : List LineValue
  pub said : lines ≡ map (λ line. Some line) values
  pub stage : IsStage end
  pub spelled : stage_lines end ≡ stage_lines s ++ values

spelled_at : (line : LineValue) (lines : List (Option LineValue)) (s end : StageValue) → IsStage s →
    ((next : StageValue) → IsStage next → comes next lines ≡ Some end → AreSpelled next lines end)
    → (o : Option StageValue) → after_line s line ≡ o → option_and_then (λ next. comes next lines) o ≡ Some end →
    AreSpelled s (Some line ∷ lines) end
spelled_at line lines s end is rest None goes e = absurd cc
spelled_at line lines s end is rest (Some next) goes e =
    let more = grown s line next is goes in
    let behind = rest next more.stage e in
    record {
      values = line ∷ behind.values;
      said = ap (λ ls. Some line ∷ ls) behind.said;
      stage = behind.stage;
      spelled = behind.spelled ∙ ap (λ ls. ls ++ behind.values) more.lines ∙
          append_assoc (stage_lines s) (line ∷ []) behind.values;
    }

pub are_spelled : (lines : List (Option LineValue)) (s end : StageValue) → IsStage s → comes s lines ≡ Some end →
    AreSpelled s lines end
are_spelled [] s end is e =
    let same : s ≡ end = cc in
    subst (AreSpelled s []) same (record {
      values = [];
      said = refl;
      stage = is;
      spelled =
          sym (append-nil (stage_lines s));
    })
are_spelled (None ∷ lines) s end is e = absurd cc
are_spelled (Some line ∷ lines) s end is e = spelled_at line lines s end is
    (λ next is e. are_spelled lines next end is e) (after_line s line) refl e

-- a plan that lines come to is theirs
pub is_spelled : (lines : List (Option LineValue)) (end : StageValue) (p : PlanValue) → comes empty lines ≡ Some end →
    whole_plan end ≡ Some p → IsPlan p × (lines ≡ map (λ line. Some line) (plan_lines p))
is_spelled lines end p e whole = at end whole (are_spelled lines empty end tt e)
  where
    theirs : (q : PlanValue) → q ≡ p → IsPlan q → (values : List LineValue) → lines ≡ map (λ line. Some line) values →
        plan_lines q ≡ values → IsPlan p × (lines ≡ map (λ line. Some line) (plan_lines p))
    theirs q same plan values said spelled =
        subst (λ (p : PlanValue). IsPlan p × (lines ≡ map (λ line. Some line) (plan_lines p))) same
        (plan, said ∙ ap (map (λ line. Some line)) (sym spelled))

    at : (end : StageValue) → whole_plan end ≡ Some p → AreSpelled empty lines end →
        IsPlan p × (lines ≡ map (λ line. Some line) (plan_lines p))
    at empty whole so = absurd cc
    at (sized n cap) whole so = absurd cc
    at (started q) whole so = theirs q (let same : q ≡ p = cc in same) so.stage.0 so.values so.said so.spelled
    at (working q b) whole so = theirs (with_block q b) (let same : with_block q b ≡ p = cc in same)
        (is_plan-block q b so.stage) so.values so.said so.spelled
