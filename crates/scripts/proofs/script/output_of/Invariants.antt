use Rattle.std.proofs.Common.{◌≡◌, ◌++◌, length, drop, None}
use Rattle.streams.specs.Fields.{lines_of}
use Rattle.scripts.specs.Script.{text_from}
use Rattle.scripts.specs.Written.{form_output, format_of}
use Rattle.scripts.proofs.Schedules.{IfRestGoesOn}
use Rattle.scripts.proofs.script.output_of.Given as goal

-- what is out, and the output of the lines that are left, are the output of all; and if these go on, all do
abbrev pub invariant-loop-line : goal.invariant-loop-line
invariant-loop-line l = record {
  format : l.out.format ≡ format_of l.form;
  bytes : l.out.bytes ++ text_from (form_output l.form) l.world (drop (length l.yielded) (lines_of l.script)) ≡ text_from
      (form_output l.form) None (lines_of l.script);
  goes : IfRestGoesOn (lines_of l.script) (length l.yielded) l.world;
}
