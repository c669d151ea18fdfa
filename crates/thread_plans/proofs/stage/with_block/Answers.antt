use Rattle.std.proofs.Common.{rules}
use Rattle.thread_plans.proofs.Counts.{few_with}
use Rattle.thread_plans.proofs.stage.with_block.Goals as goal

pub invariant_of-plan : goal.invariant_of-plan
invariant_of-plan c = record {
  few_blocks = λ node. few_with c.args.working.plan.blocks.items c.push.new.self.items c.args.working.last node 250
      (search rules)
      (c.args.working.plan.few_blocks node) c.args.working.room;
}
