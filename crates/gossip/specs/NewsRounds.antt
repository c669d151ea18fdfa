-- What a round comes to that tells only news.
use Rattle.std.specs.Prelude.{◌≡◌, ◌⊎◌, ◌≤◌, ℕ, ◌+◌, Bool, true, List, [], ◌∷◌, ◌++◌, length, map}
use Rattle.node_steps.specs.declared.config.Config.{Config}
use Rattle.node_calls.specs.Asks.{bare_emit}
use Rattle.node_registry.specs.Seats.{SeatState}
use Rattle.gossip_pace.specs.declared.news.News.{News}
use Rattle.gossip_pace.specs.declared.news.Pace.{Pace}
use Rattle.gossip.specs.Attempts.{Tries, failed_in, no_attempts, with_tries}
use Rattle.gossip.specs.declared.report.GossipReport.{GossipReport}
use Rattle.gossip.specs.Carried.{Begins, Carries}
use Rattle.gossip_pace.specs.News.{is_due}
use Rattle.gossip.specs.News.{AreLooked, IsSeen}
use Rattle.gossip.specs.Parts.{IsPartOf}
use Rattle.gossip.specs.Reports.{calls_of, own_asks_in, tried_of}
use Rattle.gossip.specs.Steps.{Adds, Moves, Stops}
use Rattle.gossip.specs.Traffic.{Traffic}

-- a report of no call
pub record IsEmpty (r : GossipReport) : Type 0 where
  pub receipts : r.receipts.items ≡ []
  pub emitted : r.emitted ≡ 0
  pub delivered : r.delivered ≡ 0
  pub lost : r.lost ≡ 0
  pub refused : r.refused ≡ 0
  pub noted : r.noted ≡ []
  pub failed : r.failed.items ≡ []
  pub attempts : r.attempts ≡ no_attempts
  pub rejected : r.rejected.items ≡ []

-- these peers were looked at, and what was told them is in the report
pub record Looks (config : Config) (seed : List ℕ) (since : ℕ) (says : ℕ → Bool → Type 0) (seat_was seat_now : SeatState)
    (was now : Traffic) (old new : GossipReport)
    (ps qs : List Pace) : Type 0 where
  pub tos : List ℕ
  pub missed : List ℕ
  pub tries : Tries
  pub looked : AreLooked config seed since says ps qs tos missed tries
  pub attempts : new.attempts ≡ with_tries tries old.attempts
  pub failures : new.failed.items ≡ old.failed.items ++ failed_in tries
  pub adds : Adds config seed seat_was seat_now old new (map bare_emit tos)
  pub moves : Moves config seed was now old new tos []
  pub tried : tried_of old + length tos ≤ tried_of new
  pub few : calls_of new ≤ calls_of old + length ps
  pub counted : new.lost + new.refused ≡ old.lost + old.refused + length missed

-- the first of these peers were looked at, and at the next one, which was to be told, memory was refused
pub record Breaks (config : Config) (seed : List ℕ) (since : ℕ) (says : ℕ → Bool → Type 0) (seat_was seat_now : SeatState)
    (was now : Traffic) (old new : GossipReport)
    (ps qs : List Pace) : Type 0 where
  pub first : List Pace
  pub after : List Pace
  pub next : Pace
  pub rest : List Pace
  pub news : News
  pub tos : List ℕ
  pub missed : List ℕ
  pub all : ps ≡ first ++ next ∷ rest
  pub left : qs ≡ after ++ next ∷ rest
  pub tries : Tries
  pub last : Tries
  pub looked : AreLooked config seed since says first after tos missed tries
  pub attempts : new.attempts ≡ with_tries (tries ++ last) old.attempts
  pub seen : IsSeen config seed since next.node news
  pub due : is_due next news ≡ true
  pub reached : says next.node true
  pub adds : Adds config seed seat_was seat_now old new (map bare_emit (tos ++ next.node ∷ []))
  pub stops : Stops config seed was now old new (tos ++ next.node ∷ [])

-- A round that this report tells of: each peer was looked at, and to each that was to be told and was reached a message
-- was made, which was sent, or is counted as lost, or the node refused to make it; to no other one was made
pub record IsNewsRound (config : Config) (seed : List ℕ) (since : ℕ) (says : ℕ → Bool → Type 0) (was now : Traffic)
    (ps qs : List Pace) (r : GossipReport) :
    Type 0 where
  pub tos : List ℕ
  pub missed : List ℕ
  pub tries : Tries
  pub looked : AreLooked config seed since says ps qs tos missed tries
  pub attempts : r.attempts ≡ with_tries tries no_attempts
  pub failures : r.failed.items ≡ failed_in tries
  pub asks : IsPartOf (own_asks_in config r.receipts.items) (map bare_emit tos)
  pub tried : length tos ≤ tried_of r
  pub counted : length missed ≤ r.lost + r.refused
  pub carries : Carries config seed was now r.receipts.items r.failed.items r.rejected.items r.lost r.refused tos []

-- one that memory ended: the same of the first peers, and perhaps of the next one, if it was to be told. One message
-- may be
-- left that was taken last
pub record IsNewsBroken (config : Config) (seed : List ℕ) (since : ℕ) (says : ℕ → Bool → Type 0) (was now : Traffic)
    (ps qs : List Pace) (r : GossipReport) :
    Type 0 where
  pub first : List Pace
  pub after : List Pace
  pub rest : List Pace
  pub next : List ℕ
  pub tos : List ℕ
  pub missed : List ℕ
  pub made : List ℕ
  pub left : List (List ℕ)
  pub all : ps ≡ first ++ rest
  pub rest_stays : qs ≡ after ++ rest
  pub tries : Tries
  pub last : Tries
  pub looked : AreLooked config seed since says first after tos missed tries
  pub attempts : r.attempts ≡ with_tries (tries ++ last) no_attempts
  pub next_due : (next ≡ []) ⊎ ((p : Pace) × (n : News) × (others : List Pace) × (rest ≡ p ∷ others)
      × IsSeen config seed since p.node n × (is_due p n ≡ true) × says p.node true × (next ≡ p.node ∷ []))
  pub asks : IsPartOf (own_asks_in config r.receipts.items) (map bare_emit (tos ++ next))
  pub few_left : length left ≤ 1
  pub begins : Begins made (tos ++ next)
  pub carries : Carries config seed was now r.receipts.items r.failed.items r.rejected.items r.lost r.refused made left
