-- What goes over a wire.
use Rattle.std.specs.Prelude.{ℕ, List, [], ◌∷◌, ◌++◌, Option, Some, None}

-- the messages that it sent, each with the node that it is for, and those that were taken from it: the first ones first
pub record Traffic : Type 0 where
  pub sent : List (ℕ × List ℕ)
  pub taken : List (List ℕ)

-- after one message more
abbrev pub sends : ℕ → List ℕ → Traffic → Traffic
sends to message t = record { sent = t.sent ++ (to, message) ∷ []; taken = t.taken }

-- after a message was taken, or none was there
abbrev pub takes : Option (List ℕ) → Traffic → Traffic
takes None t = t
takes (Some message) t = record { sent = t.sent; taken = t.taken ++ message ∷ [] }
