-- The last call of a trace.
use Rattle.std.specs.Prelude.{◌-◌, List, length, slice_get, Option, Some, None}
use Rattle.node_calls.specs.Asks.{Answered, Call, IsPassed}
use Rattle.node_calls.specs.Told.{Passed}
use Rattle.node_core.specs.Traces.{Kept, call_kept}

abbrev pub last_call : List Call → Option Call
last_call trace = slice_get trace (length trace - 1)

-- the same, where it is kept
abbrev pub last_kept : Kept → Option Call
last_kept k = call_kept k (length k.trace - 1)

-- what a call was answered, if it was a pass
abbrev pub passed_in : Answered → Option Passed
passed_in (IsPassed passed) = Some passed
passed_in _ = None

abbrev pub passed_at : Option Call → Option Passed
passed_at None = None
passed_at (Some call) = passed_in call.reply

-- the same of the last call
abbrev pub last_passed : Kept → Option Passed
last_passed k = passed_at (last_kept k)
