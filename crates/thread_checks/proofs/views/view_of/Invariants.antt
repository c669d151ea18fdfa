use Rattle.std.proofs.Common.{◌≡◌, ◌++◌, false, length, drop}
use Rattle.streams.specs.Fields.{lines_of}
use Rattle.thread_checks.specs.Views.{by_lines, shown_line, worked_after}
use Rattle.thread_checks.proofs.views.view_of.Given as goal

abbrev pub invariant-loop-line : goal.invariant-loop-line
invariant-loop-line l = record {
  so_far : l.text.items ++ by_lines (shown_line l.view) worked_after l.worked (drop (length l.yielded) (lines_of l.script))
      ≡ by_lines (shown_line l.view) worked_after false (lines_of l.script);
}
