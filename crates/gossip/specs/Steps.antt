-- What calls add to a report.
use Rattle.std.specs.Prelude.{◌≡◌, ◌≤◌, ℕ, ◌+◌, List, ◌++◌, length, count_by}
use Rattle.node_steps.specs.declared.config.Config.{Config}
use Rattle.node_calls.specs.declared.receipt.Receipt.{Receipt}
use Rattle.node_calls.specs.Asks.{Asked}
use Rattle.node_registry.specs.Receipts.{AreGivenSince, seat_after}
use Rattle.node_registry.specs.Refusals.{Refusal}
use Rattle.node_registry.specs.Seats.{SeatState}
use Rattle.gossip.specs.declared.failures.Failed.{Failed}
use Rattle.gossip.specs.declared.failures.Rejected.{Rejected}
use Rattle.gossip.specs.declared.report.GossipReport.{GossipReport}
use Rattle.gossip.specs.Carried.{Begins, Carries}
use Rattle.gossip.specs.Parts.{IsPartOf}
use Rattle.gossip.specs.Reports.{asks_in, is_delivery, is_emit, own_asks_in, own_refused_in}
use Rattle.gossip.specs.Refused.{refused_of, rejected_of}
use Rattle.gossip.specs.Traffic.{Traffic}

-- calls of a seat add their receipts, of which those that took in no message ask some of these, in order; and so do the
-- refusals that were noted
pub record Adds (config : Config) (seed : List ℕ) (was now : SeatState) (old new : GossipReport) (wanted : List Asked) :
    Type 0 where
  pub more : List Receipt
  pub receipts : new.receipts.items ≡ old.receipts.items ++ more
  pub calls : now.calls ≡ was.calls + length more
  pub counted : now ≡ seat_after was more
  pub given : AreGivenSince config seed was more
  pub emitted : new.emitted ≡ old.emitted + count_by is_emit (asks_in config more)
  pub delivered : new.delivered ≡ old.delivered + count_by is_delivery (asks_in config more)
  pub part : IsPartOf (own_asks_in config more) wanted
  pub noted : List Refusal
  pub refusals : new.noted ≡ old.noted ++ noted
  pub refused : new.refused ≡ old.refused + refused_of noted
  pub rejected : new.rejected.items ≡ old.rejected.items ++ rejected_of noted
  pub refused_part : IsPartOf (own_refused_in config noted) wanted
  pub ended : new.ended ≡ old.ended

-- between two states of a wire's traffic messages to these nodes were made, and others taken, of which these were left.
-- The report tells of it
pub record Moves (config : Config) (seed : List ℕ) (was now : Traffic) (old new : GossipReport) (tos : List ℕ)
    (left : List (List ℕ)) : Type 0 where
  pub more : List Receipt
  pub failed : List Failed
  pub rejected : List Rejected
  pub lost : ℕ
  pub refused : ℕ
  pub receipts : new.receipts.items ≡ old.receipts.items ++ more
  pub failed_more : new.failed.items ≡ old.failed.items ++ failed
  pub rejected_more : new.rejected.items ≡ old.rejected.items ++ rejected
  pub lost_more : new.lost ≡ old.lost + lost
  pub refused_more : new.refused ≡ old.refused + refused
  pub carries : Carries config seed was now more failed rejected lost refused tos left

-- memory was refused after the first of these nodes
abbrev pub Stops : Config → List ℕ → Traffic → Traffic → GossipReport → GossipReport → List ℕ → Type 0
Stops config seed was now old new wanted =
    (tos : List ℕ) × (left : List (List ℕ)) × Begins tos wanted × (length left ≤ 1)
    × Moves config seed was now old new tos left
