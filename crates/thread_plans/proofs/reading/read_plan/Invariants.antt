use Rattle.std.proofs.Common.{◌≡◌, ◌+◌, length, drop}
use Rattle.streams.specs.Fields.{lines_of}
use Rattle.thread_plans.specs.Plans.{empty, stage_from, stage_value}
use Rattle.thread_plans.proofs.reading.read_plan.Given as goal

-- what the lines that are left come to, is what all come to
abbrev pub invariant-loop-line : goal.invariant-loop-line
invariant-loop-line l = record {
  counted : l.number ≡ length l.yielded + 1;
  so_far : stage_from (stage_value l.stage) l.number (drop (length l.yielded) (lines_of l.script)) ≡ stage_from empty 1
      (lines_of l.script);
}
