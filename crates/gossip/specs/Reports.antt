-- What a report tells of the calls that were made.
use Rattle.std.specs.Prelude.{◌≡◌, ℕ, ◌+◌, ◌==◌, Bool, true, false, not, List, length, map, count_by}
use Rattle.std.specs.List.{filter, flat_map, range_with_len}
use Rattle.node_steps.specs.declared.config.Config.{Config}
use Rattle.node_calls.specs.declared.receipt.Receipt.{Receipt}
use Rattle.node_calls.specs.Asks as asks
use Rattle.node_calls.specs.Asks.{Asked, ask_value_first, bare_emit}
use Rattle.node_registry.specs.Receipts.{AreGivenSince, seat_after}
use Rattle.node_registry.specs.Refusals.{Refusal}
use Rattle.node_registry.specs.Seats.{SeatState}
use Rattle.gossip.specs.declared.report.GossipReport.{GossipReport}
use Rattle.gossip.specs.Refused.{refused_of, rejected_of}

-- what receipts say was asked, of an emit only to whom
abbrev pub asked_in : Config → Receipt → Asked
asked_in config r = ask_value_first config.nodes r.entry.ask

abbrev pub asks_in : Config → List Receipt → List Asked
asks_in config receipts = map (asked_in config) receipts

abbrev pub is_emit : Asked → Bool
is_emit (asks.Emit to versions chosen) = true
is_emit _ = false

abbrev pub is_delivery : Asked → Bool
is_delivery (asks.Deliver read) = true
is_delivery _ = false

-- of these, what didn't come from another node
abbrev pub own_asks_in : Config → List Receipt → List Asked
own_asks_in config receipts = filter (λ ask. not (is_delivery ask)) (asks_in config receipts)

-- what these refusals were asked, of an emit only to whom
abbrev pub refused_asks_in : Config → List Refusal → List Asked
refused_asks_in config refusals = map (λ refusal. ask_value_first config.nodes refusal.0) refusals

abbrev pub own_refused_in : Config → List Refusal → List Asked
own_refused_in config refusals = filter (λ ask. not (is_delivery ask)) (refused_asks_in config refusals)

-- the report has a receipt of each call that a seat made, which the node gave it, in the order of the calls; it counts
-- the messages that they made and took in, and the calls that the registry noted as refused, of which it tells the
-- messages that were rejected
pub record IsTold (config : Config) (seed : List ℕ) (was now : SeatState) (r : GossipReport) : Type 0 where
  pub calls : now.calls ≡ was.calls + length r.receipts.items
  pub counted : now ≡ seat_after was r.receipts.items
  pub given : AreGivenSince config seed was r.receipts.items
  pub emitted : r.emitted ≡ count_by is_emit (asks_in config r.receipts.items)
  pub delivered : r.delivered ≡ count_by is_delivery (asks_in config r.receipts.items)
  pub refused : r.refused ≡ refused_of r.noted
  pub rejected : r.rejected.items ≡ rejected_of r.noted

-- messages that were made or refused, and all calls
abbrev pub tried_of : GossipReport → ℕ
tried_of r = r.emitted + r.refused

abbrev pub calls_of : GossipReport → ℕ
calls_of r = r.emitted + r.delivered + r.refused

-- the other nodes below a number, in order
abbrev pub others_below : Config → ℕ → List ℕ
others_below config n = filter (λ node. not (node == config.node)) (range_with_len 0 n)

-- a round makes a message to each other node
abbrev pub emits_below : Config → ℕ → List Asked
emits_below config n = map bare_emit (others_below config n)

abbrev pub emits_of_rounds : Config → ℕ → List Asked
emits_of_rounds config rounds = flat_map (λ round. emits_below config config.nodes) (range_with_len 0 rounds)
