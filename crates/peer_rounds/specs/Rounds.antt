-- Whom rounds of gossip of a served node tell, and what they cost it.
use Rattle.std.specs.Prelude.{◌≡◌, [], ◌∷◌, true, if◌then◌else◌, ℕ, Bool, ◌+◌, ◌==◌, ◌&&◌, not, List, length}
use Rattle.std.specs.List.{filter, list_any, range_with_len}
use Rattle.node_steps.specs.declared.config.Config.{Config}
use Rattle.command_line.specs.declared.peers.NamedPeer.{NamedPeer}
use Rattle.gossip_pace.specs.declared.news.Pace.{Pace}
use Rattle.gossip_pace.specs.News.{asked_pace}
use Rattle.peers.specs.declared.asked.AskState.{AskState}
use Rattle.peer_rounds.specs.declared.served_wire.Calls.{Calls}
use Rattle.peer_rounds.specs.declared.served_wire.Calls.TheVariants as calls
use Rattle.gossip.specs.Reports.{others_below}
use Rattle.http_posts.specs.declared.peer.Peer.{Peer}

-- the most peers that are told, and the most calls of a round: a message to each, and the 64 messages that a round
-- takes in
abbrev pub most_peers : Config → ℕ
most_peers config = length (others_below config config.nodes)

abbrev pub most_calls : Config → ℕ
most_calls config = most_peers config + 64

-- the peer of the wire that a command line names
abbrev pub peer_of : NamedPeer → Peer
peer_of named = record { node = named.node; address = named.address }

-- the nodes that are told, of those with numbers below some: each but the node itself that a peer has the number of
abbrev pub is_named : List NamedPeer → ℕ → Bool
is_named named node = list_any (λ peer. peer.node == node) named

abbrev pub is_told : ℕ → List NamedPeer → ℕ → Bool
is_told node named other = not (other == node) && is_named named other

abbrev pub told_below : ℕ → ℕ → List NamedPeer → List ℕ
told_below node n named = filter (is_told node named) (range_with_len 0 n)

-- calls are made unless a recording doesn't go on
abbrev pub are_made : Calls → Bool
are_made calls.Unrecorded = true
are_made (calls.Recorded state) = state.goes_on

-- a peer that asked is sent the state in the round, whether or not it changed
abbrev pub greeted_by : AskState → Pace → Pace
greeted_by asking pace = if asking.has_asked then asked_pace pace else pace

-- each peer was looked for among those that asked
pub data AreGreeted : List AskState → List Pace → List Pace → Type 0 where
  nobody : AreGreeted [] [] []
  greeted : {asking : AskState} {p : Pace} {all : List AskState} {ps qs : List Pace}
      → asking.node ≡ p.node → AreGreeted all ps qs
      → AreGreeted (asking ∷ all) (p ∷ ps) (greeted_by asking p ∷ qs)
