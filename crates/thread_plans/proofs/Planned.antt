-- The lines of a plan come to that plan.
use Rattle.std.proofs.Common.{◌≡◌, ℕ, ◌+◌, ◌<◌, ◌≤◌, ◌^◌, ◌==◌, ◌&&◌, Bool, true, cond, List, [], ◌∷◌, ◌++◌, map, flat_map, count_by, Option, Some, None, refl, sym, ap, ◌∙◌, subst, arith, append_assoc, append-nil}
use Rattle.std.specs.Prelude.{option_and_then, if◌then◌else◌, nat_le, nat_lt}
use Rattle.std.specs.List.{AllByRecursion}
use Rattle.std.proofs.lemmas.Bool.{and_from, cond-true, eq-eqb, le-leb, lt-ltb}
use Rattle.std.proofs.lemmas.List.{map-append}
use Rattle.std.proofs.lemmas.List.Sums.{sum_by-append, sum_by_push}
use Rattle.message_format.specs.Limits.{max_nodes}
use Rattle.node_calls.specs.Told.{AskTold}
use Rattle.thread_plans.specs.Lines.{LineValue, StartValue, nodes_line, seed_line, worker_line, calls_line}
use Rattle.thread_plans.specs.Plans.{BlockValue, PlanValue, StageValue, empty, sized, started, working, after_line, begin_block, blocks_at, calls_in, most_blocks, new_plan, whole_plan, with_block}
use Rattle.thread_plans.specs.declared.plan.Rounds.{Rounds}
use Rattle.thread_plans.specs.Grammar.{AreTelling, IsBlock, IsPlan, block_lines, gossip_lines, plan_lines, start_lines}
use Rattle.thread_plans.proofs.Runs.{comes, comes-then}

abbrev some_all : List LineValue → List (Option LineValue)
some_all lines = map (λ line. Some line) lines

some_all-append : (xs ys : List LineValue) → some_all (xs ++ ys) ≡ some_all xs ++ some_all ys
some_all-append xs ys = map-append (λ line. Some line) xs ys

passed : {A : Type 0} (b : Bool) (x : A) → b ≡ true → (if b then Some x else None) ≡ Some x
passed b x e = cond-true b (Some x) None e

-- ---- before the workers

-- a plan without workers
abbrev idle : ℕ → ℕ → List ℕ → List (ℕ × StartValue) → Option Rounds → PlanValue
idle n cap seed starts gossip = record {
  nodes = n;
  cap = cap;
  seed = seed;
  starts = starts;
  gossip = gossip;
  blocks =
      [];
}

sized_comes : (n cap : ℕ) (seed : List ℕ) → 1 ≤ n → n ≤ max_nodes →
    comes empty (some_all (nodes_line n cap ∷ seed_line seed ∷ [])) ≡ Some (started (new_plan n cap seed))
sized_comes n cap seed some few =
    ap (option_and_then (λ (next : StageValue). comes next (Some (seed_line seed) ∷ [])))
    (passed (nat_le 1 n && nat_le n max_nodes) (sized n cap)
    (and_from (nat_le 1 n) (nat_le n max_nodes) (le-leb 1 n some) (le-leb n max_nodes few)))

starts_come : (n cap : ℕ) (seed : List ℕ) (starts more : List (ℕ × StartValue)) → AllByRecursion (λ s. s.0 < n) more
    → comes (started (idle n cap seed starts None)) (some_all (start_lines more)) ≡ Some
    (started (idle n cap seed (starts ++ more) None))
starts_come n cap seed starts [] low = ap (λ ss. Some (started (idle n cap seed ss None))) (sym (append-nil starts))
starts_come n cap seed starts (s ∷ more) low =
    ap (option_and_then (λ (next : StageValue). comes next (some_all (start_lines more))))
    (passed (nat_lt s.0 n && true) (started (idle n cap seed (starts ++ s ∷ []) None))
    (and_from (nat_lt s.0 n) true (lt-ltb s.0 n low.0) refl))
    ∙ starts_come n cap seed (starts ++ s ∷ []) more low.1
    ∙ ap (λ ss. Some (started (idle n cap seed ss None))) (append_assoc starts (s ∷ []) more)

gossip_comes : (n cap : ℕ) (seed : List ℕ) (starts : List (ℕ × StartValue)) (gossip : Option Rounds) →
    AreTelling gossip → comes (started (idle n cap seed starts None)) (some_all (gossip_lines gossip)) ≡ Some
    (started (idle n cap seed starts gossip))
gossip_comes n cap seed starts None is = refl
gossip_comes n cap seed starts (Some rounds) is =
    λ i. Some (started (idle n cap seed starts (Some (record { count = rounds.count; kind = sym is i }))))

-- ---- a worker

calls_come : (p : PlanValue) (node : ℕ) (lines more : List (AskTold × ℕ)) →
    calls_in (record { node = node; lines = lines ++ more }) < 2 ^ 32
    → comes (working p (record { node = node; lines = lines })) (some_all (map (λ l. calls_line l.0 l.1) more)) ≡ Some
    (working p (record { node = node; lines = lines ++ more }))
calls_come p node lines [] few = ap (λ ls. Some (working p (record { node = node; lines = ls })))
    (sym (append-nil lines))
calls_come p node lines (l ∷ more) few =
    let count : List (AskTold × ℕ) → ℕ = λ ls. calls_in (record { node = node; lines = ls }) in
    let assoc : (lines ++ l ∷ []) ++ more ≡ lines ++ l ∷ more = append_assoc lines (l ∷ []) more in
    let all : count (lines ++ l ∷ more) ≡ count (lines ++ l ∷ []) + count more = ap count (sym assoc) ∙
    sum_by-append (λ (l : AskTold × ℕ). l.1) (lines ++ l ∷ []) more in
    let one : count (lines ++ l ∷ []) ≡ count lines + l.1 = sum_by_push (λ (l : AskTold × ℕ). l.1) lines l in
    let room : count lines + l.1 < 2 ^ 32 = omega (arith, all, one, few) in
    ap (option_and_then (λ (next : StageValue). comes next (some_all (map (λ l. calls_line l.0 l.1) more))))
    (passed (nat_lt (calls_in (record { node = node; lines = lines }) + l.1) (2 ^ 32))
    (working p (record { node = node; lines = lines ++ l ∷ [] })) (lt-ltb _ _ room))
    ∙ calls_come p node (lines ++ l ∷ []) more (subst (λ (ls : List (AskTold × ℕ)). count ls < 2 ^ 32) (sym assoc) few)
    ∙ ap (λ ls. Some (working p (record { node = node; lines = ls }))) assoc

begins : (s : StageValue) (p : PlanValue) (node : ℕ) → whole_plan s ≡ Some p →
    after_line s (worker_line node) ≡ begin_block p node
begins empty p node whole = absurd cc
begins (sized n cap) p node whole = absurd cc
begins (started q) p node whole = let same : q ≡ p = cc in ap (λ r. begin_block r node) same
begins (working q b) p node whole = let same : with_block q b ≡ p = cc in ap (λ r. begin_block r node) same

block_comes : (s : StageValue) (p : PlanValue) (b : BlockValue) → whole_plan s ≡ Some p → IsBlock p.nodes b →
    blocks_at p b.node < most_blocks
    → comes s (some_all (block_lines b)) ≡ Some (working p b)
block_comes s p b whole block room =
    ap (option_and_then (λ (next : StageValue). comes next (some_all (map (λ l. calls_line l.0 l.1) b.lines))))
    (begins s p b.node whole ∙ passed (nat_lt b.node p.nodes && nat_lt (blocks_at p b.node) most_blocks)
    (working p (record { node = b.node; lines = [] }))
    (and_from (nat_lt b.node p.nodes) (nat_lt (blocks_at p b.node) most_blocks) (lt-ltb b.node p.nodes block.0)
    (lt-ltb (blocks_at p b.node) most_blocks room)))
    ∙ calls_come p b.node [] b.lines block.1

-- ---- all workers

abbrev with_blocks : PlanValue → List BlockValue → PlanValue
with_blocks p bs = record p { blocks = p.blocks ++ bs }

-- lines lead from one stage to another
pub record ComeTo (s : StageValue) (lines : List LineValue) (p : PlanValue) : Type 0 where
  pub end : StageValue
  pub come : comes s (some_all lines) ≡ Some end
  pub whole : whole_plan end ≡ Some p

room_for : (p : PlanValue) (b : BlockValue) (bs : List BlockValue) →
    blocks_at (with_blocks p (b ∷ bs)) b.node ≤ most_blocks → blocks_at p b.node < most_blocks
room_for p b bs few =
    let all : blocks_at (with_blocks p (b ∷ bs)) b.node ≡ count_by (λ x. x.node == b.node) p.blocks + count_by
    (λ x. x.node == b.node) (b ∷ bs) =
    sum_by-append (λ (x : BlockValue). cond (x.node == b.node) 1 0) p.blocks (b ∷ bs) in
    let first : count_by (λ x. x.node == b.node) (b ∷ bs) ≡ cond (b.node == b.node) 1 0 + count_by
    (λ x. x.node == b.node) bs =
    sum_by-append (λ (x : BlockValue). cond (x.node == b.node) 1 0) (b ∷ []) bs ∙
    ap (λ n. n + count_by (λ x. x.node == b.node) bs) (counted_one b) in
    let same : ◌≡◌ {A = ℕ} (cond (b.node == b.node) 1 0) 1 = ap (λ t. cond t 1 0) (eq-eqb b.node b.node refl) in
    omega (arith, few, all, first, same)
  where
    counted_one : (b : BlockValue) → count_by (λ x. x.node == b.node) (b ∷ []) ≡ cond (b.node == b.node) 1 0
    counted_one b = omega arith

blocks_come : (bs : List BlockValue) (s : StageValue) (p : PlanValue) → whole_plan s ≡ Some p →
    AllByRecursion (IsBlock p.nodes) bs → ((node : ℕ) → blocks_at (with_blocks p bs) node ≤ most_blocks)
    → ComeTo s (flat_map block_lines bs) (with_blocks p bs)
blocks_come [] s p whole all few = record {
  end = s;
  come = refl;
  whole = whole ∙
      ap (λ bs. Some (record p { blocks = bs })) (sym (append-nil p.blocks));
}
blocks_come (b ∷ bs) s p whole all few =
    let assoc : (p.blocks ++ b ∷ []) ++ bs ≡ p.blocks ++ b ∷ bs = append_assoc p.blocks (b ∷ []) bs in
    let first : comes s (some_all (block_lines b)) ≡ Some (working p b) =
    block_comes s p b whole all.0 (room_for p b bs (few b.node)) in
    let rest = blocks_come bs (working p b) (with_block p b) refl all.1
    (λ node. subst (λ (all : List BlockValue). count_by (λ x. x.node == node) all ≤ most_blocks) (sym assoc)
    (few node)) in
    record {
      end = rest.end;
      come =
          ap (comes s) (some_all-append (block_lines b) (flat_map block_lines bs))
          ∙ comes-then s (working p b) (Some rest.end) (some_all (block_lines b)) (some_all (flat_map block_lines bs))
          first rest.come;
      whole = rest.whole ∙ ap (λ all. Some (record p { blocks = all })) assoc;
    }

-- ---- a plan

pub plan_comes : (p : PlanValue) → IsPlan p → ComeTo empty (plan_lines p) p
plan_comes p is =
    let first = sized_comes p.nodes p.cap p.seed is.some_nodes is.few_nodes in
    let starts = starts_come p.nodes p.cap p.seed [] p.starts is.starts in
    let gossip = gossip_comes p.nodes p.cap p.seed p.starts p.gossip is.telling in
    let blocks = blocks_come p.blocks (started (idle p.nodes p.cap p.seed p.starts p.gossip))
    (idle p.nodes p.cap p.seed p.starts p.gossip) refl is.blocks is.few_blocks in
    let behind : comes (started (idle p.nodes p.cap p.seed p.starts None))
    (some_all (gossip_lines p.gossip ++ flat_map block_lines p.blocks)) ≡ Some blocks.end =
    ap (comes (started (idle p.nodes p.cap p.seed p.starts None)))
    (some_all-append (gossip_lines p.gossip) (flat_map block_lines p.blocks))
    ∙ comes-then (started (idle p.nodes p.cap p.seed p.starts None))
    (started (idle p.nodes p.cap p.seed p.starts p.gossip)) (Some blocks.end)
    (some_all (gossip_lines p.gossip)) (some_all (flat_map block_lines p.blocks)) gossip blocks.come in
    let after_seed : comes (started (new_plan p.nodes p.cap p.seed))
    (some_all (start_lines p.starts ++ (gossip_lines p.gossip ++ flat_map block_lines p.blocks))) ≡ Some
    blocks.end =
    ap (comes (started (new_plan p.nodes p.cap p.seed))) (some_all-append (start_lines p.starts)
    (gossip_lines p.gossip ++ flat_map block_lines p.blocks))
    ∙ comes-then (started (new_plan p.nodes p.cap p.seed)) (started (idle p.nodes p.cap p.seed p.starts None))
    (Some blocks.end)
    (some_all (start_lines p.starts)) (some_all (gossip_lines p.gossip ++ flat_map block_lines p.blocks)) starts
    behind in
    record {
      end = blocks.end;
      come =
          comes-then empty (started (new_plan p.nodes p.cap p.seed)) (Some blocks.end)
          (some_all (nodes_line p.nodes p.cap ∷ seed_line p.seed ∷ []))
          (some_all (start_lines p.starts ++ (gossip_lines p.gossip ++ flat_map block_lines p.blocks))) first
          after_seed;
      whole = blocks.whole;
    }
