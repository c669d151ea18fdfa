-- Who sent a message.
use Rattle.std.specs.Prelude.{ℕ, List, slice_get, Option}

-- the node that a message says it is of, by its fifth byte
abbrev pub sender_of : List ℕ → Option ℕ
sender_of message = slice_get message 4
