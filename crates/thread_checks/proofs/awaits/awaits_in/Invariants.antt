use Rattle.std.proofs.Common.{◌≡◌, ◌+◌, ◌++◌, length, drop}
use Rattle.streams.specs.Fields.{lines_of}
use Rattle.thread_checks.specs.Views.{by_lines}
use Rattle.thread_checks.specs.WaitLines.{place_value, wait_lines}
use Rattle.thread_checks.specs.Waits.{after_place, first_place, wait_at}
use Rattle.thread_checks.proofs.awaits.awaits_in.Given as goal

abbrev pub invariant-loop-line : goal.invariant-loop-line
invariant-loop-line l = record {
  counted : l.place.line ≡ length l.yielded + 1;
  so_far : wait_lines l.awaits.items ++ by_lines wait_at after_place (place_value l.place)
      (drop (length l.yielded) (lines_of l.script))
      ≡ by_lines wait_at after_place first_place (lines_of l.script);
}
