use Rattle.std.proofs.Common.{◌≡◌, ◌+◌, ◌++◌, ◌<◌, length, drop, None}
use Rattle.streams.specs.Fields.{lines_of}
use Rattle.scripts.specs.Faults.{said_by}
use Rattle.scripts.specs.Script.{text_from}
use Rattle.scripts.specs.Warned.{warned_of}
use Rattle.scripts.specs.Warnings.{after_warned, line_warned, unwarned, warned_sums}
use Rattle.scripts.specs.Written.{form_output, format_of}
use Rattle.scripts.proofs.Schedules.{IfRestGoesOn}
use Rattle.scripts.proofs.warn.warned_output_of.Given as goal

-- what is printed and said, and that of the lines that are left, are those of all; and if these go on, all do
abbrev pub invariant-loop-line : goal.invariant-loop-line
invariant-loop-line l = record {
  counted : l.warning.number ≡ length l.yielded + 1;
  few_bad : l.warning.bad < l.warning.number;
  few_unset : l.warning.unset < l.warning.number;
  format : l.printed.format ≡ format_of l.form;
  printed : l.printed.bytes ++ text_from (form_output l.form) l.world (drop (length l.yielded) (lines_of l.script))
      ≡ text_from (form_output l.form) None (lines_of l.script);
  said : l.warning.said
      ++ said_by line_warned after_warned warned_sums l.world (warned_of l.warning)
      (drop (length l.yielded) (lines_of l.script))
      ≡ said_by line_warned after_warned warned_sums None unwarned (lines_of l.script);
  goes : IfRestGoesOn (lines_of l.script) (length l.yielded) l.world;
}
