-- What a clause reads of lines that are read in turn, of which the bad ones are named.
use Rattle.std.specs.Prelude.{option_map}
use Rattle.thread_plans.specs.declared.bad_lines.Naming.{Naming}
use Rattle.thread_plans.specs.BadLines as lines
use Rattle.thread_plans.specs.Plans.{stage_value}

abbrev pub naming_value : Naming → lines.Naming
naming_value n = record { stage = option_map stage_value n.stage; number = n.number; bad = n.bad }
