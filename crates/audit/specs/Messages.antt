-- The messages that calls tell of.
use Rattle.std.specs.Prelude.{ℕ, List, Option, Some, None}
use Rattle.node_calls.specs.Told.{Told, AskTold, ReplyTold, delivers, was_emitted}

-- the bytes that a call emitted, and those that it delivered, if it is of that kind
abbrev pub emitted_by : ReplyTold → Option (List ℕ)
emitted_by (was_emitted bytes) = Some bytes
emitted_by _ = None

abbrev pub delivered_by : AskTold → Option (List ℕ)
delivered_by (delivers bytes) = Some bytes
delivered_by _ = None

abbrev pub bytes_emitted : Told → Option (List ℕ)
bytes_emitted t = emitted_by t.reply

abbrev pub bytes_delivered : Told → Option (List ℕ)
bytes_delivered t = delivered_by t.ask
