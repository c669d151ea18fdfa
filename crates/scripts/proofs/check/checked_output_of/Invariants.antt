use Rattle.std.proofs.Common.{◌≡◌, ◌+◌, ◌++◌, length, drop, None}
use Rattle.streams.specs.Fields.{lines_of}
use Rattle.scripts.specs.Checking.{checking_of}
use Rattle.scripts.specs.Checks.{checked_output, line_checked, line_said, settled, unchecked}
use Rattle.scripts.specs.Faults.{said_by}
use Rattle.scripts.specs.Script.{text_from}
use Rattle.scripts.specs.Written.{format_of}
use Rattle.scripts.proofs.Schedules.{IfRestGoesOn}
use Rattle.scripts.proofs.check.checked_output_of.Given as goal

-- what is printed and said, and that of the lines that are left, are those of all; and if these go on, all do
abbrev pub invariant-loop-line : goal.invariant-loop-line
invariant-loop-line l = record {
  counted : l.check.number ≡ length l.yielded + 1;
  format : l.printed.format ≡ format_of l.form;
  printed : l.printed.bytes ++ text_from (checked_output l.form) l.world (drop (length l.yielded) (lines_of l.script))
      ≡ text_from (checked_output l.form) None (lines_of l.script);
  said : l.check.said
      ++ said_by line_said line_checked settled l.world (checking_of l.check)
      (drop (length l.yielded) (lines_of l.script))
      ≡ said_by line_said line_checked settled None unchecked (lines_of l.script);
  goes : IfRestGoesOn (lines_of l.script) (length l.yielded) l.world;
}
