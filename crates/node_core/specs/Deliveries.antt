-- What a message comes to at the node that it is delivered to, and what a node tells.
use Rattle.std.specs.Prelude.{◌≡◌, ◌≤◌, ℕ, false, List, ◌++◌, length, Result, Ok}
use Rattle.replica_state.specs.Folds.{fold, clock_of}
use Rattle.replica_state.specs.Deltas.{IsDelta}
use Rattle.message_format.specs.declared.fault.WireFault.{WireFault}
use Rattle.message_format.specs.Limits.{max_names}
use Rattle.message_format.specs.Messages.{MessageValue, message_value, operations_in}
use Rattle.message_format.specs.Spelling.{IsMessage, SpellsMessage}
use Rattle.delta_exchange.specs.News.{Brings}
use Rattle.delta_exchange.specs.Wholes.{AreLawful}
use Rattle.node_steps.specs.declared.config.Config.{Config}
use Rattle.node_steps.specs.declared.delivery.Delivery.{Delivery}
use Rattle.node_steps.specs.Replicas.{state_in}
use Rattle.node_calls.specs.Asks.{Message, Versions, message_of, message_read}
use Rattle.node_steps.specs.Nodes.{Node, state_shown}
use Rattle.node_steps.specs.Refusals.{message_in, says_more}
use Rattle.node_core.specs.Traces.{Kept, node_of, state_known, versions_told}

-- what a message that a node accepts comes to: its greatest clock; it says no more of the node than the
-- node knows, and with it there are few names
pub record IsDelivery (config : Config) (n : Node) (read : Result Message WireFault) (clock : ℕ) : Type 0 where
  pub clock_is : clock ≡ clock_of (message_in read).ops
  pub lawful : AreLawful config.nodes (message_in read).ops
  pub behind : says_more config.node (state_shown n) (message_in read).ops ≡ false
  pub few_names : length (fold ((message_in read).ops ++ n.ops)).names ≤ max_names

-- what these bytes come to at a node: they are read as a message that acknowledges no version which is
-- still to come, and the replica that is received brings what it tells
pub record DeliversAs (k : Kept) (bytes : List ℕ) (d : Delivery) : Type 0 where
  pub is_read : message_read k.config.nodes bytes ≡ Ok (message_of (message_value d.message))
  pub spelled : IsMessage k.config.nodes (message_value d.message)
  pub received : Brings (state_shown (node_of k)) (state_in d.received) (operations_in (message_value d.message))
  pub reached : (message_value d.message).ack ≤ (node_of k).marks.version
  pub delivery :
      IsDelivery k.config (node_of k) (message_read k.config.nodes bytes) d.clock

-- the versions that a message tells
abbrev pub versions_in : MessageValue → Versions
versions_in m = record { base = m.base; upto = m.upto; ack = m.ack }

-- bytes of a message to a node that tells what differs between the state at the version that it is known
-- to have and the state now, and the versions
pub record TellsDelta (k : Kept) (to : ℕ) (bytes : List ℕ) : Type 0 where
  pub message : MessageValue
  pub spelled : SpellsMessage k.config.nodes bytes message
  pub sender : message.from ≡ k.config.node
  pub receiver : message.to ≡ to
  pub versions : versions_in message ≡ versions_told (node_of k).marks to
  pub delta : IsDelta ((node_of k).past message.base) (state_known k) (operations_in message)
