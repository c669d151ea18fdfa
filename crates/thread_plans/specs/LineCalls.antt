-- The calls that lines of a worker ask for, in a script of threads.
use Rattle.std.specs.Prelude.{ℕ, List, Option, Some, None}
use Rattle.node_calls.specs.Told.{AskTold}
use Rattle.streams.specs.Lines.{◌>>=◌}
use Rattle.thread_plans.specs.Lines.{LineValue, calls_line, line_in}

-- a call of a worker
abbrev pub asked_by : LineValue → Option AskTold
asked_by (calls_line call times) = Some call
asked_by _ = None

-- that of a line; one that is skipped has none of the forms
abbrev pub call_in : List ℕ → Option AskTold
call_in line = line_in line >>= asked_by
