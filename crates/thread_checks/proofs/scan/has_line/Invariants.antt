use Rattle.std.proofs.Common.{◌≡◌, ◌||◌, length, drop}
use Rattle.streams.specs.Fields.{lines_of}
use Rattle.thread_checks.specs.Scans.{has_line}
use Rattle.thread_checks.proofs.scan.has_line.Given as goal

abbrev pub invariant-loop-line : goal.invariant-loop-line
invariant-loop-line l = record {
  so_far : (l.found || has_line l.text (drop (length l.yielded) (lines_of l.printed))) ≡ has_line l.text (lines_of l.printed);
}
