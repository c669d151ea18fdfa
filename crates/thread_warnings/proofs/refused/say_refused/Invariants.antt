use Rattle.std.proofs.Common.{◌≡◌, ◌++◌}
use Rattle.std.specs.List.{flat_map, range_with_len}
use Rattle.thread_warnings.specs.RefusedCalls.{code_said}
use Rattle.thread_warnings.proofs.refused.say_refused.Given as goal

abbrev pub invariant-loop-code : goal.invariant-loop-code
invariant-loop-code l = record {
  said : l.said ≡ l.initial.said ++ flat_map (code_said l.refused) (range_with_len 0 l.code);
}
