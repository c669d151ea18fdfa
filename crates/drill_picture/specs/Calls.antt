-- The calls of a drill, and the messages that they made and took.
use Rattle.std.specs.Prelude.{ℕ, Bool, false, List, slice_get, Option, Some, None, option_and_then}
use Rattle.std.specs.Str.{bytes_eq}
use Rattle.node_calls.specs.Told.{Told, AskTold, ReplyTold, delivers, was_emitted}
use Rattle.packed_trace.specs.Packed.{Packed}

-- the traces of a drill, in the order of their nodes
abbrev pub Traces : Type 0
Traces = List Packed

-- the call at an index of a node's trace, if it is there
unfoldable pub call_at : Traces → ℕ → ℕ → Option Told
call_at traces node index = option_and_then (λ trace. slice_get trace.calls index) (slice_get traces node)

-- the bytes of the message that was made, and of the one that was taken, if there was one
abbrev pub made_by : ReplyTold → Option (List ℕ)
made_by (was_emitted bytes) = Some bytes
made_by _ = None

abbrev pub taken_by : AskTold → Option (List ℕ)
taken_by (delivers bytes) = Some bytes
taken_by _ = None

abbrev pub is_of : List ℕ → Option (List ℕ) → Bool
is_of bytes None = false
is_of bytes (Some other) = bytes_eq other bytes

-- whether a call made a message of these bytes
abbrev pub makes : List ℕ → Option Told → Bool
makes bytes None = false
makes bytes (Some call) = is_of bytes (made_by call.reply)
