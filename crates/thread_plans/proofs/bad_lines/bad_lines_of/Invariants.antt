use Rattle.std.proofs.Common.{◌≡◌, ◌+◌, ◌++◌, ◌<◌, length, drop}
use Rattle.streams.specs.Fields.{lines_of}
use Rattle.thread_plans.specs.BadLines.{none_named, said_from}
use Rattle.thread_plans.specs.Named.{naming_value}
use Rattle.thread_plans.specs.Plans.{line_count}
use Rattle.thread_plans.proofs.bad_lines.bad_lines_of.Given as goal

-- what was said, and what is said of the lines that are left, are what is said of all
abbrev pub invariant-loop-line : goal.invariant-loop-line
invariant-loop-line l = record {
  counted : l.naming.number ≡ length l.yielded + 1;
  few : l.naming.bad < l.naming.number;
  said : l.naming.said
      ++ said_from (line_count l.script + 1) (naming_value l.naming) (drop (length l.yielded) (lines_of l.script))
      ≡ said_from (line_count l.script + 1) none_named (lines_of l.script);
}
