-- What is known of a call that is accepted, by its kind, before it is put at the end of a node's trace.
use Rattle.std.specs.Prelude.{◌≡◌, ℕ, ◌+◌, ◌<◌, ◌≤◌, ◌^◌, Bool, true, List, [], ◌∷◌, length, Option, Some, Result, Ok, IsTrue, pos, ◌≤ℤ◌}
use Rattle.actions.specs.Names.{is_name}
use Rattle.replica_state.specs.States.{State, rights_of}
use Rattle.message_format.specs.declared.fault.WireFault.{WireFault}
use Rattle.message_format.specs.Messages.{MessageValue}
use Rattle.message_format.specs.Spelling.{IsBody}
use Rattle.node_calls.specs.Asks.{Asked, Call, Message, Load, Pass, Deliver, emit_of, message_of}
use Rattle.node_core.specs.Deliveries.{IsDelivery}
use Rattle.node_steps.specs.Outcomes.{AreTellable, HasKey, ops_done}
use Rattle.node_core.specs.Room.{state_loaded, HasRoom, HasClocks, HasPlace, HavePlaces}
use Rattle.node_steps.specs.Passes.{pass_ops}
use Rattle.node_steps.specs.Settings.{points_in, settings}
use Rattle.node_core.specs.Traces.{Kept, node_of, state_known}
use Rattle.node_core.proofs.ShiftSteps.{MovesAs, MayMove}

-- it gives one point a key
pub record SetsPoint (k : Kept) (c : Call) (name : List ℕ) (body : Option (List ℕ)) : Type 0 where
  pub room : HasRoom k
  pub drawn : c.words ≡ []
  pub setting : settings c.ask ≡ (name, body) ∷ []
  pub clocks : HasClocks k 1
  pub named : IsTrue (is_name name)
  pub bodied : IsBody body
  pub place : HasPlace k name

-- it loads points, so many
pub record LoadsPoints (k : Kept) (c : Call) (text : List ℕ) (entries : ℕ) : Type 0 where
  pub room : HasRoom k
  pub asks : c.ask ≡ Load text
  pub drawn : c.words ≡ []
  pub count : entries ≡ length (points_in text)
  pub clocks : HasClocks k entries
  pub each : AreTellable (settings (Load text))
  pub places : HavePlaces k (state_loaded k text).names

-- it passes a point, in this state
pub record PassesPoint (k : Kept) (c : Call) (state : State) (name words : List ℕ) (is_set : Bool) (spent : Option ℕ)
    : Type 0 where
  pub room : HasRoom k
  pub asks : c.ask ≡ Pass name
  pub drawn : c.words ≡ words
  pub ops : pass_ops k.config.node state name words ≡ ops_done k.config.node state name is_set spent
  pub key : is_set ≡ true → HasKey state name
  pub right : (t : ℕ) → spent ≡ Some t → (t < 2 ^ 8) × (pos 1 ≤ℤ rights_of state name t k.config.node)

-- it moves rights to a term to a node, or grants them, which then are so many in all
pub record MovesRights (k : Kept) (c : Call) (ask : Asked) (name : List ℕ) (term to amount total : ℕ) : Type 0 where
  pub room : HasRoom k
  pub asks : c.ask ≡ ask
  pub drawn : c.words ≡ []
  pub moves : MovesAs k.config.node ask name term to amount
  pub set : HasKey (state_known k) name
  pub may : MayMove k.config (state_known k) name term to amount
  pub low : term < 2 ^ 8
  pub sum : total ≡ (state_known k).shifts name term k.config.node to + amount

-- it delivers what was read, after which the clock is at least this
pub record TakesIn (k : Kept) (c : Call) (read : Result Message WireFault) (later : ℕ) : Type 0 where
  pub room : HasRoom k
  pub asks : c.ask ≡ Deliver read
  pub drawn : c.words ≡ []
  pub delivery : IsDelivery k.config (node_of k) read later

-- and that is a message, which acknowledges no version that is still to come
pub record TakesMessage (k : Kept) (c : Call) (read : Result Message WireFault) (later : ℕ) (m : MessageValue)
    : Type 0 where
  pub takes : TakesIn k c read later
  pub was : read ≡ Ok (message_of m)
  pub reached : m.ack ≤ (node_of k).marks.version

-- it makes a message
pub record MakesMessage (k : Kept) (c : Call) (to : ℕ) (read : Result Message WireFault) : Type 0 where
  pub room : HasRoom k
  pub asks : c.ask ≡ emit_of to read
  pub drawn : c.words ≡ []
