-- What the gossip of a node comes to.
use Rattle.std.specs.Prelude.{◌≡◌, ◌⊎◌, ◌≤◌, ℕ, ◌+◌, ◌*◌, Bool, List, [], ◌∷◌, ◌++◌, length, Option, Some, None, option_map, Vec, vec_len, Result, Ok, Err}
use Rattle.std.specs.declared.alloc.AllocError.{AllocError}
use Rattle.std.specs.declared.alloc.Global.{Global}
use Rattle.node_steps.specs.declared.config.Config.{Config}
use Rattle.node_calls.specs.declared.receipt.Receipt.{Receipt}
use Rattle.node_registry.specs.Receipts.{AreGivenSince, seat_after}
use Rattle.node_registry.specs.Seats.{SeatState, new_seat}
use Rattle.sharing.specs.Memory.{Recalled}
use Rattle.registry_sharing.specs.Rounds.{IsRoundWith}
use Rattle.audit.specs.Receipts.{Lists}
use Rattle.gossip.specs.declared.report.GossipReport.{GossipReport}
use Rattle.gossip.specs.declared.report.Ended.TheVariants as ends
use Rattle.gossip.specs.Carried.{Carried}
use Rattle.gossip.specs.Mailboxes.{Place, traffic_of}
use Rattle.gossip.specs.Reports.{calls_of, emits_of_rounds}
use Rattle.thread_plans.specs.declared.plan.RoundKind.{RoundKind}
use Rattle.thread_plans.specs.declared.plan.RoundKind.TheVariants as kinds
use Rattle.thread_plans.specs.declared.plan.Rounds.{Rounds}

-- a wire, and so many rounds over it, if there are any
abbrev pub gossip_over : Place → Option Rounds → Option (Place × Rounds)
gossip_over wire rounds = option_map (λ r. (wire, r)) rounds

-- so many rounds took a wire from one state to another, and made no more calls than these can
abbrev pub AreRounds : Config → List ℕ → Place → Place → ℕ → GossipReport → Type 0
AreRounds config seed was now rounds r =
    Carried config seed (traffic_of was) (traffic_of now) rounds r
    × (calls_of r ≤ length (emits_of_rounds config rounds) + rounds * 64)

-- rounds of messages alone, which memory didn't end: the receipts of their calls
abbrev pub AreTold : Config → List ℕ → Place → Place → ℕ → List Receipt → Type 0
AreTold config seed was now rounds receipts =
    (r : GossipReport) × (r.receipts.items ≡ receipts) × (r.ended ≡ ends.Done) × AreRounds config seed was now rounds r

-- the shifts by which a node shares its rights in a round, from a seat, by what was remembered of the round before, and
-- what is remembered of this one: their receipts
abbrev pub AreShifts : Config → List ℕ → SeatState → List Recalled → List Recalled → List Receipt → Type 0
AreShifts config seed had was now receipts =
    (keeps : Bool) × (seats : ℕ) × IsRoundWith config seed keeps seats had (seat_after had receipts) was now receipts

-- so many rounds of sharing took a wire from its first state to this one, of which this is remembered, and came to
-- these receipts. Each begins with the shifts that are due, and goes on with its messages
pub data AreShared (config : Config) (seed : List ℕ) (was : Place)
    : ℕ → List Recalled → List Receipt → Place → Type 0 where
  no_round : AreShared config seed was 0 [] [] was
  next_round : {rounds : ℕ} {memory next : List Recalled} {receipts : List Receipt} {between now : Place}
      (shifts told : List Receipt)
      → AreShared config seed was rounds memory receipts between
      → AreShifts config seed (seat_after new_seat receipts) memory next shifts
      → AreTold config seed between now 1 told
      → AreShared config seed was (rounds + 1) next (receipts ++ (shifts ++ told)) now

-- rounds of this kind, from a seat without a call
abbrev pub AreOfKind : RoundKind → Config → List ℕ → Place → Place → ℕ → List Receipt → Type 0
AreOfKind kinds.Telling config seed was now rounds receipts = AreTold config seed was now rounds receipts
AreOfKind kinds.Sharing config seed was now rounds receipts =
    (memory : List Recalled) × AreShared config seed was rounds memory receipts now

-- from a seat without a call so many rounds were done over this wire, of the kind that this gossip does
abbrev pub AreRoundsOf : Config → List ℕ → Place × Rounds → Place → ℕ → List Receipt → Type 0
AreRoundsOf config seed gossip now rounds receipts =
    AreGivenSince config seed new_seat receipts × AreOfKind gossip.1.kind config seed gossip.0 now rounds receipts

-- as many as it does were done; or none, where the workers beside it had no thread
abbrev pub IsGossip : Config → List ℕ → Place × Rounds → Place → List Receipt → Type 0
IsGossip config seed gossip now receipts =
    AreRoundsOf config seed gossip now gossip.1.count receipts ⊎ AreRoundsOf config seed gossip now 0 receipts

-- how many receipts there are, where memory wasn't refused
abbrev pub count_or : Result (Vec Receipt Global) AllocError → ℕ → ℕ
count_or (Ok receipts) calls = vec_len receipts
count_or (Err refused) calls = calls

-- the lists of such gossip, if there is any
abbrev pub AreOfGossip : Config → List ℕ → Option (Place × Rounds) → Lists → Type 0
AreOfGossip config seed None lists = lists ≡ []
AreOfGossip config seed (Some gossip) lists =
    (receipts : Vec Receipt Global) × (now : Place) × (lists ≡ receipts ∷ [])
    × IsGossip config seed gossip now receipts.items
