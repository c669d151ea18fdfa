-- Shifts that are made are calls without random draws, and so is a setting.
use Rattle.std.proofs.Common.{ℕ, List, [], ◌∷◌, map, take, refl, inl, inr, subst, Result, Ok, Err}
use Rattle.std.specs.Prelude.{IfErr, IfOk, OnOk}
use Rattle.node_calls.specs.Asks as asks
use Rattle.node_calls.specs.declared.fault.NodeFault.{NodeFault}
use Rattle.stamp_register.specs.declared.key.Stamp.{Stamp}
use Rattle.node_core.specs.Traces.{Accepts, Kept, after_call}
use Rattle.node_registry.specs.Batches.{AreAccepted, GoesOn}
use Rattle.node_sharing.specs.Made.{AreMade, IsStopped, asked}
use Rattle.node_sharing.specs.Spread.{IsNotSetSpread, IsNotSpread, IsSetSpread, spread_due}
use Rattle.sharing.specs.declared.shift.Shift.{Shift}

made_accepted : (k : Kept) (shifts : List Shift) (new : Kept) → AreMade k shifts new →
    AreAccepted k (map asked shifts) new
made_accepted k [] new made = made
made_accepted k (shift ∷ shifts) new made =
    (refl, made.0, tt, made_accepted (after_call k (asked shift) []) shifts new made.1)

pub made_goes : (k : Kept) (shifts : List Shift) (new : Kept) → AreMade k shifts new → GoesOn k new
made_goes k shifts new made = (map asked shifts, made_accepted k shifts new made)

pub stopped_goes : (k : Kept) (shifts : List Shift) (new : Kept) (fault : NodeFault) → IsStopped k shifts new fault →
    GoesOn k new
stopped_goes k shifts new fault stopped = made_goes k (take stopped.0 shifts) new stopped.1

-- all of them are made, or the first ones
pub shifts_go : {X : Type 0} (k : Kept) (shifts : List Shift) (new : Kept) (r : Result X NodeFault) →
    OnOk r (AreMade k shifts new) → IfErr r (IsStopped k shifts new) → GoesOn k new
shifts_go k shifts new (Ok x) made stopped = made_goes k shifts new made
shifts_go k shifts new (Err fault) made stopped = stopped_goes k shifts new fault stopped

-- a spread
pub not_spread_goes : (k : Kept) (name : List ℕ) (new : Kept) (fault : NodeFault) → IsNotSpread k name new fault →
    GoesOn k new
not_spread_goes k name new fault (inl same) = ([], same.0)
not_spread_goes k name new fault (inr stopped) = stopped_goes k (spread_due k name) new fault stopped.1

pub spread_goes : (k : Kept) (name : List ℕ) (new : Kept) (r : Result ℕ NodeFault) →
    OnOk r (AreMade k (spread_due k name) new) → IfErr r (IsNotSpread k name new) → GoesOn k new
spread_goes k name new (Ok kept) made refused = made_goes k (spread_due k name) new made
spread_goes k name new (Err fault) made refused = not_spread_goes k name new fault refused

-- a setting, and what goes on from it
set_goes : (k set new : Kept) (name text : List ℕ) (stamp : Stamp) →
    Accepts k set (asks.Set name text) [] (asks.IsSet stamp) → GoesOn set new → GoesOn k new
set_goes k set new name text stamp accepted more =
    let from : AreAccepted (after_call k (asks.Set name text) []) more.0 new =
    subst (λ s. AreAccepted s more.0 new) accepted.2 more.1 in
    (asks.Set name text ∷ more.0, (refl, accepted.0, tt, from))

pub is_set_goes : (k new : Kept) (name text : List ℕ) (stamp : Stamp) → IsSetSpread k name text stamp new → GoesOn k new
is_set_goes k new name text stamp h =
    set_goes k h.set new name text stamp h.accepted (made_goes h.set (spread_due h.set name) new h.made)

pub not_set_goes : (k new : Kept) (name text : List ℕ) (fault : NodeFault) → IsNotSetSpread k name text new fault →
    GoesOn k new
not_set_goes k new name text fault (inl same) = ([], same.0)
not_set_goes k new name text fault (inr h) =
    set_goes k h.set new name text h.stamp h.accepted (stopped_goes h.set (spread_due h.set name) new fault h.stopped)

pub set_spread_goes : (k : Kept) (name text : List ℕ) (new : Kept) (r : Result Stamp NodeFault) →
    IfOk r (λ stamp. IsSetSpread k name text stamp new) → IfErr r (IsNotSetSpread k name text new) → GoesOn k new
set_spread_goes k name text new (Ok stamp) made refused = is_set_goes k new name text stamp made
set_spread_goes k name text new (Err fault) made refused = not_set_goes k new name text fault refused
