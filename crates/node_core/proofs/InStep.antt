-- What a node holds stays in step with its trace, when a call is put at its end.
use Rattle.std.proofs.Common.{◌≡◌, ℕ, ◌+◌, max, Bool, nat_lt, List, ◌++◌, Option, Result, refl}
use Rattle.std.specs.Int.{from_bool}
use Rattle.replica_state.specs.States.{State, with_key, with_shifts}
use Rattle.operations.specs.Operations.{Operation}
use Rattle.replica_state.specs.Folds.{fold}
use Rattle.replica_state.specs.Knowledge.{changes}
use Rattle.message_format.specs.declared.fault.WireFault.{WireFault}
use Rattle.delta_exchange.specs.Told.{HasLearned}
use Rattle.node_calls.specs.Asks.{Asked, Call, Message}
use Rattle.node_steps.specs.Outcomes.{state_done}
use Rattle.node_core.specs.Room.{state_loaded}
use Rattle.node_steps.specs.Refusals.{message_in}
use Rattle.node_steps.specs.Settings.{new_key}
use Rattle.node_core.specs.Traces.{Kept, state_known, with_call}
use Rattle.node_core.specs.Holds.{IsInStep}
use Rattle.node_core.proofs.Kept.{issue_kept, load_kept, pass_kept, moved_kept, emit_kept, deliver_kept}
use Rattle.node_core.proofs.KeptTelling.{issue_tell, load_tell, pass_tell, moved_tell, emit_tell, deliver_tell}
use Rattle.node_core.proofs.CallFacts.{SetsPoint, LoadsPoints, PassesPoint, MovesRights, TakesIn, MakesMessage}

module _ (k : Kept) (clock version : ℕ) (state next : State) (c : Call) (is : IsInStep k clock version state) where
  -- with the next call, this clock, so much more of the version, and the next state
  abbrev IsInStepThen : ℕ → ℕ → Type 0
  IsInStepThen later more = IsInStep (with_call k c) later (version + more) next

  pub issue_in_step : {name : List ℕ} {body : Option (List ℕ)} → SetsPoint k c name body →
      next ≡ with_key name (new_key k.config.node clock body) state → IsInStepThen (clock + 1) 1
  issue_in_step sets s = (issue_kept k clock state next c is.0 sets s, issue_tell k clock version state c is.0 is.1 sets)

  pub load_in_step : {text : List ℕ} {entries clocks : ℕ} → LoadsPoints k c text entries → clocks ≡ entries →
      ((a b : List Operation) → state ≡ fold a → state_loaded k text ≡ fold b → next ≡ fold (a ++ b)) →
      IsInStepThen (clock + clocks) (from_bool (nat_lt 0 entries))
  load_in_step loads same merged = (load_kept k clock state next c is.0 loads same merged, load_tell k clock version state c is.0 is.1 loads)

  pub pass_in_step : {name words : List ℕ} {is_set : Bool} {spent : Option ℕ} →
      PassesPoint k c state name words is_set spent → next ≡ state_done k.config.node state name is_set spent →
      IsInStepThen clock (from_bool is_set)
  pass_in_step passes s = (pass_kept k clock state next c is.0 passes s, pass_tell k clock version state c is.0 is.1 passes)

  pub moved_in_step : {ask : Asked} {name : List ℕ} {term to amount total : ℕ} →
      MovesRights k c ask name term to amount total → next ≡ with_shifts name term k.config.node to total state →
      IsInStepThen clock 1
  moved_in_step moved s = (moved_kept k clock state next c is.0 moved s, moved_tell k clock version state c is.0 is.1 moved)

  pub deliver_in_step : {read : Result Message WireFault} {later last : ℕ} {changed : Bool} → TakesIn k c read later →
      HasLearned state next (message_in read).ops → last ≡ max clock later →
      changed ≡ changes (state_known k) (message_in read).ops → IsInStepThen last (from_bool changed)
  deliver_in_step takes learned late changing =
      (deliver_kept k clock state next c is.0 takes learned late, deliver_tell k clock version state c is.0 is.1 takes changing)

-- a message that was made leaves the state
pub emit_in_step : (k : Kept) (clock version : ℕ) (state : State) (c : Call) → IsInStep k clock version state →
    {to : ℕ} {read : Result Message WireFault} → MakesMessage k c to read →
    IsInStep (with_call k c) clock version state
emit_in_step k clock version state c is makes =
    (emit_kept k clock state state c is.0 makes refl, emit_tell k clock version state c is.0 is.1 makes)
