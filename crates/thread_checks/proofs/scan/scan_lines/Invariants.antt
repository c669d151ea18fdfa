use Rattle.std.proofs.Common.{◌≡◌, ◌+◌, ◌++◌, length, drop}
use Rattle.streams.specs.Fields.{lines_of}
use Rattle.thread_checks.specs.Scanned.{scan_value}
use Rattle.thread_checks.specs.Scans.{after_scanned, scan_said, unscanned}
use Rattle.thread_checks.specs.Views.{by_lines}
use Rattle.thread_checks.proofs.scan.scan_lines.Given as goal

abbrev pub invariant-loop-line : goal.invariant-loop-line
invariant-loop-line l = record {
  counted : l.scan.number ≡ length l.yielded + 1;
  so_far : l.said ++ by_lines (scan_said l.vain l.printed) after_scanned (scan_value l.scan)
      (drop (length l.yielded) (lines_of l.script))
      ≡ by_lines (scan_said l.vain l.printed) after_scanned unscanned (lines_of l.script);
}
