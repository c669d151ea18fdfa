use Rattle.std.proofs.Common.{◌≡◌, ◌≤◌, ◌++◌, drop, map}
use Rattle.thread_plans.specs.Plans.{block_value, plan_value}
use Rattle.thread_warnings.specs.Short.{shorts_from}
use Rattle.thread_warnings.proofs.short.say_shorts.Given as goal

-- what was said, and what is said of the workers that are left, are what is said of all
abbrev pub invariant-loop-block : goal.invariant-loop-block
invariant-loop-block l = record {
  counted : l.before ≡ l.block-index;
  few : l.named ≤ l.before;
  said : l.said ++ shorts_from (plan_value l.plan) l.lists l.numbers l.before l.named
      (drop l.block-index (map block_value l.plan.blocks.items))
      ≡ l.initial.said ++ shorts_from (plan_value l.plan) l.lists l.numbers 0 0
      (map block_value l.plan.blocks.items);
}
