-- How a node's rights to a point are spread, at once and where the point is set.
use Rattle.std.specs.Prelude.{◌≡◌, ◌⊎◌, ℕ, ◌+◌, ◌*◌, ◌-◌, ◌<◌, ◌^◌, min, List, [], length, None, false}
use Rattle.std.specs.List.{fold, range_with_len}
use Rattle.actions.specs.Limits.{max_terms}
use Rattle.actions.specs.Names.{is_name}
use Rattle.node_calls.specs.Asks as asks
use Rattle.node_calls.specs.declared.fault.NodeFault.{NodeFault}
use Rattle.node_calls.specs.declared.fault.NodeFault.TheVariants.{BadName, NotSet, OutOfMemory, TraceFull}
use Rattle.stamp_register.specs.declared.key.Stamp.{Stamp}
use Rattle.node_steps.specs.Nodes.{setting_of}
use Rattle.node_core.specs.Traces.{Accepts, IsRefusalOf, Kept, state_known}
use Rattle.replica_state.specs.States.{rights_of}
use Rattle.sharing.specs.declared.shift.Shift.{Shift}
use Rattle.sharing.specs.Memory.{patience}
use Rattle.sharing.specs.Shares.{spare_of}
use Rattle.sharing.specs.Spreads.{spread_of}
use Rattle.node_sharing.specs.Made.{AreMade, IsStopped}

-- the shifts that spread the node's rights to a point, by what it knows
abbrev pub spread_due : Kept → List ℕ → List Shift
spread_due k name = spread_of (state_known k) k.config.node k.config.nodes name

-- the rights that the node has to a term, and to all terms of a point: what doesn't fit is the greatest number that does
abbrev pub own_rights : Kept → List ℕ → ℕ → ℕ
own_rights k name term = spare_of (rights_of (state_known k) name term k.config.node) patience

abbrev pub rights_kept : Kept → List ℕ → ℕ
rights_kept k name =
    fold (λ all term. min (all + own_rights k name term) (2 ^ 64 - 1)) 0 (range_with_len 0 max_terms)

-- the cap leaves fewer calls than these
abbrev pub LacksRoom : Kept → ℕ → Type 0
LacksRoom k calls = k.config.trace_cap - length k.trace < calls

-- why no shift is made: the name is none, the point isn't set, or the cap doesn't leave room for all; or memory was refused
abbrev pub IsNoSpread : Kept → List ℕ → NodeFault → Type 0
IsNoSpread k name fault =
    (fault ≡ OutOfMemory) ⊎ ((fault ≡ BadName) × (is_name name ≡ false))
    ⊎ ((fault ≡ NotSet) × (setting_of (state_known k) name ≡ None))
    ⊎ ((fault ≡ TraceFull) × LacksRoom k (length (spread_due k name)))

-- a spread is refused before its first shift; or there was room for all, and one is refused
abbrev pub IsNotSpread : Kept → List ℕ → Kept → NodeFault → Type 0
IsNotSpread k name new fault =
    ((new ≡ k) × IsNoSpread k name fault)
    ⊎ ((LacksRoom k (length (spread_due k name)) → ⊥) × IsStopped k (spread_due k name) new fault)

-- a point is set, and the rights to it are spread
pub record IsSetSpread (k : Kept) (name text : List ℕ) (stamp : Stamp) (new : Kept) : Type 0 where
  pub set : Kept
  pub accepted : Accepts k set (asks.Set name text) [] (asks.IsSet stamp)
  pub made : AreMade set (spread_due set name) new

-- the most calls that a setting with its spread takes: a shift of each term to each other node
abbrev pub most_calls : ℕ → ℕ
most_calls nodes = 1 + max_terms * (nodes - 1)

-- why no point is set: the cap doesn't leave room, the name is none, or the node refuses the setting
abbrev pub IsNoSetting : Kept → List ℕ → List ℕ → NodeFault → Type 0
IsNoSetting k name text fault =
    ((fault ≡ TraceFull) × LacksRoom k (most_calls k.config.nodes))
    ⊎ ((fault ≡ BadName) × (is_name name ≡ false))
    ⊎ IsRefusalOf k (asks.Set name text) [] fault

-- there was room, the point was set, and a shift of the spread was refused
pub record IsSetAndStopped (k : Kept) (name text : List ℕ) (new : Kept) (fault : NodeFault) : Type 0 where
  pub room : LacksRoom k (most_calls k.config.nodes) → ⊥
  pub set : Kept
  pub stamp : Stamp
  pub accepted : Accepts k set (asks.Set name text) [] (asks.IsSet stamp)
  pub stopped : IsStopped set (spread_due set name) new fault

abbrev pub IsNotSetSpread : Kept → List ℕ → List ℕ → Kept → NodeFault → Type 0
IsNotSetSpread k name text new fault =
    ((new ≡ k) × IsNoSetting k name text fault) ⊎ IsSetAndStopped k name text new fault
