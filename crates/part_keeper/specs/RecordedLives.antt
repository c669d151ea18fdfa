-- Lives of a cluster whose nodes write journals, and restart from them.
use Rattle.std.specs.Prelude.{ℕ, ◌<◌, ◌==◌, List, [], ◌∷◌, ◌++◌, length, if◌then◌else◌, Option, Some}
use Rattle.node_calls.specs.Asks.{Asked, Call}
use Rattle.node_calls.specs.Asks as asks
use Rattle.node_steps.specs.Refusals.{message_in}
use Rattle.cluster_model.specs.Laws.{IsToldBy}
use Rattle.cluster_model.specs.Lives.{Turn, IsLife, life}
use Rattle.cluster_model.specs.Lives as turn
use Rattle.cluster_model.specs.Schedules.{AllowsDelta}
use Rattle.cluster_model.specs.Worlds.{Cluster, Event, World, accepted}
use Rattle.part_keeper.specs.Wholes.{Begins, Follows}

-- a node is asked something; the lines of calls are written to a node's journal; the caller of the call at this place of
-- a node's trace gets its reply; or a node ends, and restarts from its journal
pub data Moment : Type 0 where
  is_asked : (event : Event) → Moment
  is_written : (node : ℕ) (calls : List Call) → Moment
  is_answered : (node place : ℕ) → Moment
  is_ended : (node : ℕ) → Moment

-- the calls whose lines a node's journal has after these moments, of which the last stands first
abbrev pub journal : List Moment → ℕ → List Call
journal [] i = []
journal (is_written j calls ∷ moments) i = if i == j then journal moments i ++ calls else journal moments i
journal (_ ∷ moments) i = journal moments i

-- what happens to the nodes
abbrev pub turns_of : List Moment → List Turn
turns_of [] = []
turns_of (is_asked e ∷ moments) = turn.is_asked e ∷ turns_of moments
turns_of (is_written i calls ∷ moments) = turns_of moments
turns_of (is_answered i place ∷ moments) = turn.is_answered i place ∷ turns_of moments
turns_of (is_ended i ∷ moments) = turn.is_restarted i (length (journal moments i)) ∷ turns_of moments

abbrev pub world_of : Cluster → List Moment → World
world_of c moments = life c (turns_of moments)

-- a message that is delivered is one that a call was answered with whose line is in its sender's journal
abbrev pub IsHandedBack : List Moment → Option Asked → Type 0
IsHandedBack moments (Some (asks.Deliver read)) =
    IsToldBy (journal moments (message_in read).from) (message_in read)
IsHandedBack moments _ = Unit {0}

-- what may come next; a caller gets the reply of a call whose line is in the journal, and no other
abbrev pub MayFollow : Cluster → List Moment → Moment → Type 0
MayFollow c moments (is_asked e) =
    let w = world_of c moments in
    AllowsDelta w e.node (accepted c w e e.node) × IsHandedBack moments (accepted c w e e.node)
MayFollow c moments (is_written i calls) = Follows ((world_of c moments).trace i) (journal moments i) calls
MayFollow c moments (is_answered i place) = place < length (journal moments i)
MayFollow c moments (is_ended i) = Unit {0}

abbrev pub IsRecordedLife : Cluster → List Moment → Type 0
IsRecordedLife c [] = Unit {0}
IsRecordedLife c (moment ∷ moments) = MayFollow c moments moment × IsRecordedLife c moments

-- It is a life as the laws over lives ask for: no call is lost whose caller got its reply, and none whose message was
-- delivered. And what a node restarts from, the calls of its journal, are the first ones of its trace
pub record IsLifeOfJournals (c : Cluster) (moments : List Moment) : Type 0 where
  pub lives : IsLife AllowsDelta c (turns_of moments)
  pub begins : (i : ℕ) → Begins (journal moments i) ((world_of c moments).trace i)

abbrev pub RecordedLivesAreLives : Type 0
RecordedLivesAreLives = (c : Cluster) (moments : List Moment) → IsRecordedLife c moments → IsLifeOfJournals c moments
