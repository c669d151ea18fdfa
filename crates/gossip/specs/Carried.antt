-- What becomes of messages in rounds.
use Rattle.std.specs.Prelude.{◌≡◌, ◌≢◌, ◌≤◌, ℕ, ◌+◌, List, [], ◌∷◌, ◌++◌, length, map}
use Rattle.std.specs.List.{flat_map, range_with_len}
use Rattle.node_steps.specs.declared.config.Config.{Config}
use Rattle.node_calls.specs.declared.fault.NodeFault.{NodeFault}
use Rattle.node_calls.specs.declared.fault.NodeFault.TheVariants as faults
use Rattle.node_calls.specs.declared.receipt.Receipt.{Receipt}
use Rattle.node_calls.specs.Asks as asks
use Rattle.node_calls.specs.Asks.{bare_emit, message_read}
use Rattle.node_calls.specs.Told as tells
use Rattle.node_calls.specs.Told.{AskTold, ReplyTold, ask_told, reply_told}
use Rattle.node_registry.specs.Receipts.{IsRefused}
use Rattle.gossip.specs.declared.failures.Failed.{Failed}
use Rattle.gossip.specs.declared.failures.Rejected.{Rejected}
use Rattle.gossip.specs.declared.report.GossipReport.{GossipReport}
use Rattle.gossip.specs.declared.report.Ended.TheVariants.{Done}
use Rattle.gossip.specs.Reports.{others_below}
use Rattle.gossip_pace.specs.Senders.{sender_of}
use Rattle.gossip.specs.Traffic.{Traffic}

-- the bytes of an emit, and those of a delivery
abbrev pub bytes_told : ReplyTold → List ℕ
bytes_told (tells.was_emitted bytes) = bytes
bytes_told _ = []

abbrev pub emit_told : AskTold → ReplyTold → List (ℕ × List ℕ)
emit_told (tells.emits to) reply = (to, bytes_told reply) ∷ []
emit_told _ reply = []

abbrev pub delivery_told : AskTold → List (List ℕ)
delivery_told (tells.delivers bytes) = bytes ∷ []
delivery_told _ = []

-- the messages of the emits among receipts, each with the node that it is for, and those of the deliveries
abbrev pub messages_in : List Receipt → List (ℕ × List ℕ)
messages_in receipts = flat_map (λ r. emit_told (ask_told r.entry.ask) (reply_told r.entry.reply)) receipts

abbrev pub deliveries_in : List Receipt → List (List ℕ)
deliveries_in receipts = flat_map (λ r. delivery_told (ask_told r.entry.ask)) receipts

-- To each of these nodes a message was made, which was sent or lost, or the node refused it, otherwise than as out of
-- memory: the messages made, those sent, those lost, and the nodes to which none was made
pub data AreTold (config : Config) (seed : List ℕ)
    : List ℕ → List (ℕ × List ℕ) → List (ℕ × List ℕ) → List (ℕ × List ℕ) → List ℕ → Type 0 where
  nobody : AreTold config seed [] [] [] [] []
  sent_to : {to : ℕ} {message : List ℕ} {tos refused : List ℕ} {made sent lost : List (ℕ × List ℕ)}
      → AreTold config seed tos made sent lost refused
      → AreTold config seed (to ∷ tos) ((to, message) ∷ made) ((to, message) ∷ sent) lost refused
  lost_to : {to : ℕ} {message : List ℕ} {tos refused : List ℕ} {made sent lost : List (ℕ × List ℕ)}
      → AreTold config seed tos made sent lost refused
      → AreTold config seed (to ∷ tos) ((to, message) ∷ made) sent ((to, message) ∷ lost) refused
  refused_to : {to : ℕ} {fault : NodeFault} {tos refused : List ℕ} {made sent lost : List (ℕ × List ℕ)}
      → IsRefused config seed (bare_emit to) fault → fault ≢ faults.OutOfMemory
      → AreTold config seed tos made sent lost refused
      → AreTold config seed (to ∷ tos) made sent lost (to ∷ refused)

-- each of these messages was delivered, or the node refused it, otherwise than as out of memory: those delivered, and
-- those refused
pub data AreHeard (config : Config) (seed : List ℕ) : List (List ℕ) → List (List ℕ) → List (List ℕ) → Type 0 where
  nothing : AreHeard config seed [] [] []
  delivered : {message : List ℕ} {taken given refused : List (List ℕ)}
      → AreHeard config seed taken given refused
      → AreHeard config seed (message ∷ taken) (message ∷ given) refused
  refused_it : {message : List ℕ} {fault : NodeFault} {taken given refused : List (List ℕ)}
      → IsRefused config seed (asks.Deliver (message_read config.nodes message)) fault → fault ≢ faults.OutOfMemory
      → AreHeard config seed taken given refused
      → AreHeard config seed (message ∷ taken) given (message ∷ refused)

-- Between two states of a wire's traffic messages to these nodes were made, of which some were sent, so many lost, and
-- some refused. Messages were taken and delivered or refused, and then these, which were left. The receipts are of the
-- calls, what failed is told of those lost, and what was rejected of those refused, in order; and so many calls were
-- refused
pub record Carries (config : Config) (seed : List ℕ) (was now : Traffic) (receipts : List Receipt)
    (failed : List Failed) (rejected : List Rejected) (lost refused : ℕ) (tos : List ℕ) (left : List (List ℕ)) :
    Type 0 where
  pub sent : List (ℕ × List ℕ)
  pub lost_messages : List (ℕ × List ℕ)
  pub refused_nodes : List ℕ
  pub heard : List (List ℕ)
  pub refused_messages : List (List ℕ)
  pub sends : now.sent ≡ was.sent ++ sent
  pub takes : now.taken ≡ was.taken ++ (heard ++ left)
  pub told : AreTold config seed tos (messages_in receipts) sent lost_messages refused_nodes
  pub delivered : AreHeard config seed heard (deliveries_in receipts) refused_messages
  pub lost_all : lost ≡ length lost_messages
  pub refused_all : refused ≡ length refused_nodes + length refused_messages
  pub failed_all : map (λ (f : Failed). f.peer) failed ≡ map (λ (message : ℕ × List ℕ). message.0) lost_messages
  pub rejected_all : map (λ (r : Rejected). r.sender) rejected ≡ map sender_of refused_messages

-- the nodes that rounds tell
abbrev pub others_in_rounds : Config → ℕ → List ℕ
others_in_rounds config rounds = flat_map (λ round. others_below config config.nodes) (range_with_len 0 rounds)

abbrev pub Begins : {X : Type 0} → List X → List X → Type 0
Begins {X = X} xs all = (rest : List X) × (all ≡ xs ++ rest)

-- Rounds that this report tells of carried messages to the first of the nodes that they were to tell, and to all but
-- where memory ended them; then a message may be left that was taken last
abbrev pub Carried : Config → List ℕ → Traffic → Traffic → ℕ → GossipReport → Type 0
Carried config seed was now rounds r =
    (tos : List ℕ) × (left : List (List ℕ)) × Begins tos (others_in_rounds config rounds) × (length left ≤ 1)
    × (r.ended ≡ Done → (tos ≡ others_in_rounds config rounds) × (left ≡ []))
    × Carries config seed was now r.receipts.items r.failed.items r.rejected.items r.lost r.refused tos left
