use Rattle.std.proofs.Common.{◌≡◌, ◌++◌, arith, subst}
use Rattle.std.specs.List.{flat_map, range_with_len}
use Rattle.thread_plans.specs.Plans.{plan_value}
use Rattle.thread_warnings.specs.ShortStarts.{node_said, starts_lines}
use Rattle.thread_warnings.proofs.ShortStarts.{one_node}
use Rattle.thread_warnings.proofs.short_starts.say_starts.Goals as goal

pub loop-node-preserved : goal.loop-node-preserved
loop-node-preserved c =
    let plan = plan_value c.args.plan.now in
    let grown : c.say_start.new.said ≡ c.loop-node.said ++ node_said plan c.args.lists.now c.loop-node.node =
    rw (c.in_ok-say_start.was, c.start_calls-calls.ensures, c.start_receipts-receipts.ensures) at c.say_start.ensures in
    record {
      said = one_node (node_said plan c.args.lists.now) c.loop-node.node _ _ _ c.loop-node.invariant.said grown;
    }

pub returns : goal.returns
unfolding starts_lines
returns c =
    let plan = plan_value c.args.plan.now in
    let all : c.loop-node.node ≡ c.args.plan.now.size.nodes =
    omega (arith, c.loop-node-test.false, c.loop-node.auto.node-end) in
    subst (λ n. c.loop-node.said ≡ c.args.said.now ++ flat_map (node_said plan c.args.lists.now)
    (range_with_len 0 n)) all c.loop-node.invariant.said
