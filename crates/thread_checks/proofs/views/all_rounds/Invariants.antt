use Rattle.std.proofs.Common.{◌≡◌, ◌++◌, false, length, drop}
use Rattle.streams.specs.Fields.{lines_of}
use Rattle.thread_checks.specs.Views.{by_lines, same_after, shown_rounds}
use Rattle.thread_checks.proofs.views.all_rounds.Given as goal

abbrev pub invariant-loop-line : goal.invariant-loop-line
invariant-loop-line l = record {
  so_far : l.rounds.items ++ by_lines (shown_rounds l.meant) same_after false (drop (length l.yielded) (lines_of l.script))
      ≡ by_lines (shown_rounds l.meant) same_after false (lines_of l.script);
}
