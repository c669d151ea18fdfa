-- Rounds of a served node, each of which shares rights before it tells what there is to tell.
use Rattle.std.specs.Prelude.{◌≡◌, ◌≤◌, ⊤, ℕ, ◌+◌, ◌&&◌, ◌||◌, Bool, false, List, [], ◌∷◌, ◌++◌, is_none, is_some, if◌then◌else◌, map, Result}
use Rattle.node_steps.specs.declared.config.Config.{Config}
use Rattle.node_calls.specs.declared.fault.NodeFault.{NodeFault}
use Rattle.command_line.specs.declared.reading.Rights.{Rights}
use Rattle.command_line.specs.declared.reading.Rights.TheVariants.{Stay, FollowDemand}
use Rattle.node_registry.specs.Seats.{SeatState}
use Rattle.gossip.specs.declared.report.Ended.TheVariants.{Done, OutOfMemory}
use Rattle.gossip.specs.declared.report.GossipReport.{GossipReport}
use Rattle.gossip.specs.NewsRounds.{IsNewsBroken, IsNewsRound}
use Rattle.gossip.specs.Reports.{IsTold}
use Rattle.gossip.specs.Traffic.{Traffic}
use Rattle.gossip_pace.specs.declared.news.Pace.{Pace}
use Rattle.gossip_pace.specs.News.{first_pace}
use Rattle.sharing.specs.Memory.{Recalled}
use Rattle.registry_sharing.specs.Rounds.{IsShareRound}
use Rattle.peer_rounds.specs.Losses.{first_loss}
use Rattle.peer_rounds.specs.Rounds.{AreGreeted, are_made, most_calls}
use Rattle.peer_rounds.specs.Taken.{attempts_in, taken_as, taken_in}
use Rattle.peer_rounds.specs.declared.round.Early.{Early}
use Rattle.peer_rounds.specs.declared.round.Early.TheVariants as early
use Rattle.peer_rounds.specs.declared.round.Round.{Round}
use Rattle.peer_rounds.specs.declared.round.RightsNow.{RightsNow}

-- rights follow demand in a round where that is wanted, and calls are made
abbrev pub rights_by : Rights → Bool → Rights
rights_by Stay are_made = Stay
rights_by FollowDemand are_made = if are_made then FollowDemand else Stay

-- calls are made once nobody is waited for, and as long as they are written
abbrev pub AreRightsOf : Rights → RightsNow → Type 0
AreRightsOf wanted now = now.rights ≡ rights_by wanted (is_none now.awaited.node && are_made now.calls)

-- where rights follow demand, a round of sharing was made from a seat; where they stay, nothing was done
abbrev pub IsSharedFirst : Rights → Config → List ℕ → Bool → ℕ → SeatState → SeatState → List Recalled → List Recalled →
    Type 0
IsSharedFirst Stay config seed keeps seats had has was now = (has ≡ had) × (now ≡ was)
IsSharedFirst FollowDemand config seed keeps seats had has was now =
    (result : Result ℕ NodeFault) × IsShareRound config seed keeps seats had has was now result

-- A round from a seat, over a wire. Rights are shared first, if they follow demand. Then each peer is sent what is
-- news for it, a peer that asked even without news, and what the wire brings is taken in. The round notes what was
-- taken in and what was due, and says whether a message showed that the node has lost its state.
pub record IsRound (config : Config) (seed : List ℕ) (keeps : Bool) (seats : ℕ) (says : ℕ → Bool → Type 0)
    (wanted : Rights) (had has : SeatState) (was now : List Recalled) (before after : Traffic) (ps qs : List Pace)
    (round : Round) (lost : Bool) : Type 0 where
  pub greeted : List Pace
  pub shared : SeatState
  pub report : GossipReport
  pub asked : AreGreeted round.asked.items ps greeted
  pub rights : AreRightsOf wanted round.rights
  pub first : IsSharedFirst round.rights.rights config seed keeps seats had shared was now
  pub told : IsTold config seed shared has report
  pub done : report.ended ≡ Done → IsNewsRound config seed shared.calls says before after greeted qs report
  pub broken : report.ended ≡ OutOfMemory → IsNewsBroken config seed shared.calls says before after greeted qs report
  pub few : has.calls ≤ shared.calls + most_calls config
  pub noted : map taken_as round.noted.items ≡ taken_in report
  pub attempts : round.attempts.items ≡ attempts_in report.attempts
  pub known : lost ≡ is_some (first_loss report.rejected.items)

-- so many rounds were made, one after the other; whether one of them showed that the node has lost its state
pub data AreMade (config : Config) (seed : List ℕ) (keeps : Bool) (seats : ℕ) (says : ℕ → Bool → Type 0)
    (wanted : Rights) (had : SeatState) (before : Traffic) (ps : List Pace) : ℕ → SeatState → List Recalled →
    Traffic → List Pace → List Round → Bool → Type 0 where
  none : AreMade config seed keeps seats says wanted had before ps 0 had [] before ps [] false
  more : {count : ℕ} {has later : SeatState} {now next : List Recalled} {amid after : Traffic} {qs rs : List Pace}
      {rounds : List Round} {round : Round} {lost loses : Bool}
      → AreMade config seed keeps seats says wanted had before ps count has now amid qs rounds lost
      → IsRound config seed keeps seats says wanted has later now next amid after qs rs round loses
      → AreMade config seed keeps seats says wanted had before ps (count + 1) later next after rs
      (rounds ++ round ∷ []) (lost || loses)

-- the same, whatever is remembered in the end of who passed
abbrev pub AreRounds : Config → List ℕ → Bool → ℕ → (ℕ → Bool → Type 0) → Rights → SeatState → SeatState → Traffic →
    Traffic → List Pace → List Pace → ℕ → List Round → Bool → Type 0
AreRounds config seed keeps seats says wanted had has before after ps qs count rounds lost =
    (memory : List Recalled)
    × AreMade config seed keeps seats says wanted had before ps count has memory after qs rounds lost

-- the same to these nodes, none of which was told before
abbrev pub AreRoundsTo : List ℕ → Config → List ℕ → Bool → ℕ → (ℕ → Bool → Type 0) → Rights → SeatState → SeatState →
    Traffic → Traffic → ℕ → List Round → Bool → Type 0
AreRoundsTo nodes config seed keeps seats says wanted had has before after count rounds lost =
    (paces : List Pace) × AreRounds config seed keeps seats says wanted had has before after (map first_pace nodes) paces
    count rounds lost

-- why there were no more: it is shown that the service has ended whose end has this name, or memory was refused, or there
-- is no wire
abbrev pub IsEarly : ℕ → Early → Type 0
IsEarly name (early.Ended token) = token.of ≡ name
IsEarly name early.NoMemory = ⊤
IsEarly name (early.NoWire why) = ⊤
