use Rattle.std.proofs.Common.{◌≡◌, ◌+◌, ◌++◌, length, drop}
use Rattle.streams.specs.Fields.{lines_of}
use Rattle.thread_plans.specs.LineNumbers.{numbers_from}
use Rattle.thread_plans.proofs.line_numbers.numbers_of.Given as goal

abbrev pub invariant-loop-line : goal.invariant-loop-line
invariant-loop-line l = record {
  counted : l.number ≡ length l.yielded + 1;
  so_far : l.numbers.items ++ numbers_from l.kind l.number (drop (length l.yielded) (lines_of l.script))
      ≡ numbers_from l.kind 1 (lines_of l.script);
}
