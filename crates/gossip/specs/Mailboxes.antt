-- The wire of one node among those of all.
use Rattle.std.specs.Prelude.{ℕ, List, [], ◌∷◌, ◌++◌, Option, Some, None, option_map}
use Rattle.std.specs.List.{flat_map}
use Rattle.gossip.specs.declared.mailbox.Look.{Look}
use Rattle.gossip.specs.declared.mailbox.Posted.{Posted}
use Rattle.gossip.specs.Traffic.{Traffic}

-- the node, and how many nodes there are; into the mailbox of which node it put which bytes; and into the mailbox of
-- which node it looked, with the bytes of the message that it took there, if there was one: the first ones first
pub record Place : Type 0 where
  pub node : ℕ
  pub nodes : ℕ
  pub sent : List (ℕ × List ℕ)
  pub looks : List (ℕ × Option (List ℕ))

-- before anything is sent or taken
abbrev pub new_place : ℕ → ℕ → Place
new_place nodes node = record { node = node; nodes = nodes; sent = []; looks = [] }

-- after these bytes were put into the mailbox of a node
abbrev pub posts : ℕ → List ℕ → Place → Place
posts to message p =
    record { node = p.node; nodes = p.nodes; sent = p.sent ++ (to, message) ∷ []; looks = p.looks }

-- after a look into its own mailbox
abbrev pub finds : Option (List ℕ) → Place → Place
finds message p =
    record { node = p.node; nodes = p.nodes; sent = p.sent; looks = p.looks ++ (p.node, message) ∷ [] }

-- the message that was taken, if there was one
abbrev pub messages_of : Option (List ℕ) → List (List ℕ)
messages_of None = []
messages_of (Some message) = message ∷ []

abbrev pub taken_in : List (ℕ × Option (List ℕ)) → List (List ℕ)
taken_in looks = flat_map (λ look. messages_of look.1) looks

abbrev pub traffic_of : Place → Traffic
traffic_of p = record { sent = p.sent; taken = taken_in p.looks }

-- what the wire keeps, as contracts see it
abbrev pub posted_value : Posted → ℕ × List ℕ
posted_value p = (p.to, p.message.value.items)

abbrev pub look_value : Look → ℕ × Option (List ℕ)
look_value l = (l.node, option_map (λ m. m.items) l.found)
