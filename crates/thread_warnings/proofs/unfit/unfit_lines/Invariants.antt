use Rattle.std.proofs.Common.{◌≡◌, ◌+◌, ◌++◌, ◌<◌, length, drop}
use Rattle.streams.specs.Fields.{lines_of}
use Rattle.thread_warnings.specs.Unfit.{none_unfit, said_from}
use Rattle.thread_warnings.specs.Unfits.{unfit_of}
use Rattle.thread_warnings.proofs.unfit.unfit_lines.Given as goal

-- what was said, and what is said of the lines that are left, are what is said of all
abbrev pub invariant-loop-line : goal.invariant-loop-line
invariant-loop-line l = record {
  counted : l.warning.number ≡ length l.yielded + 1;
  few : l.warning.unfit < l.warning.number;
  said : l.warning.said ++ said_from (unfit_of l.warning) (drop (length l.yielded) (lines_of l.script))
      ≡ said_from none_unfit (lines_of l.script);
}
