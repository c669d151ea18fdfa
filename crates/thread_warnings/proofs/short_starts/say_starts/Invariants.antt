use Rattle.std.proofs.Common.{◌≡◌, ◌++◌}
use Rattle.std.specs.List.{flat_map, range_with_len}
use Rattle.thread_plans.specs.Plans.{plan_value}
use Rattle.thread_warnings.specs.ShortStarts.{node_said}
use Rattle.thread_warnings.proofs.short_starts.say_starts.Given as goal

abbrev pub invariant-loop-node : goal.invariant-loop-node
invariant-loop-node l = record {
  said : l.said ≡ l.initial.said
      ++ flat_map (node_said (plan_value l.plan) l.lists) (range_with_len 0 l.node);
}
