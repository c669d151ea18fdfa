-- The first refusals of an ask: those of the trace and of the name.
use Rattle.std.proofs.Common.{◌≡◌, ℕ, ◌≤◌, ◌⊎◌, inl, inr, true, false, List, [], ◌∷◌, ◌+◌, length, Option, Some, None, Result, Ok, Err, refl, sym, ◌∙◌, ap, subst, arith}
use Rattle.std.proofs.lemmas.Bool.Decides.{nat_tests}
use Rattle.std.specs.Prelude.{nat_le, IfErr}
use Rattle.std.specs.Result.{IsErr, IsErrAnd}
use Rattle.actions.specs.Names.{is_name}
use Rattle.node_calls.specs.declared.fault.NodeFault.{NodeFault}
use Rattle.node_calls.specs.declared.fault.NodeFault.TheVariants as faults
use Rattle.refusals.specs.Refusals.{first_fault}
use Rattle.actions.specs.Reading.{reading}
use Rattle.actions.specs.SettingReading.{setting_reading}
use Rattle.actions.specs.Value.{TermValue}
use Rattle.counters.specs.Cells.{is_too_great}
use Rattle.replica_state.specs.States.{with_name}
use Rattle.node_calls.specs.Asks.{Set, Remove, Load, Shift, Grant}
use Rattle.node_steps.specs.Refusals.{bad_actions, bad_setting, key_refusal, no_entry, no_name, no_place, no_clock, shift_refusal, grant_refusal}
use Rattle.node_core.specs.Room.{HasClocks, HasPlace, HasRoom}
use Rattle.node_core.specs.Traces.{IsRefusalOf, Kept, node_of, refusal, state_known}
use Rattle.node_steps.proofs.ShiftRefusals.{upto_most}

-- a fault that is passed on
pub passed_on : {A : Type 0} (P : NodeFault → Type 0) (r : Result A NodeFault) (f : NodeFault) → IsErr r →
    IsErrAnd r (λ e. e ≡ f) → P f → IfErr r P
passed_on P (Ok x) f is same h = absurd (let impossible : false ≡ true = is in cc)
passed_on P (Err e) f is same h = subst P (sym same) h

pub full : (k : Kept) (fs : List (Option NodeFault)) → k.config.trace_cap ≤ length k.trace →
    first_fault (no_entry k.config (length k.trace) ∷ fs) ≡ Some faults.TraceFull
full k fs high = let is : nat_le k.config.trace_cap (length k.trace) ≡ true = grind (arith, nat_tests, high) in
    rw is refl

not_full : (k : Kept) → HasRoom k → nat_le k.config.trace_cap (length k.trace) ≡ false
not_full k room = grind (arith, nat_tests, room)

pub bad_name : (k : Kept) (name : List ℕ) (fs : List (Option NodeFault)) → HasRoom k → is_name name ≡ false →
    first_fault (no_entry k.config (length k.trace) ∷ no_name name ∷ fs) ≡ Some faults.BadName
bad_name k name fs room bad = rw (not_full k room, bad) refl

pub later : (k : Kept) (name : List ℕ) (fs : List (Option NodeFault)) → HasRoom k → is_name name ≡ true →
    first_fault (no_entry k.config (length k.trace) ∷ no_name name ∷ fs) ≡ first_fault fs
later k name fs room good = rw (not_full k room, good) refl

pub trace_refused : (k : Kept) (fs : List (Option NodeFault)) (f : NodeFault) →
    (f ≡ faults.TraceFull) × (k.config.trace_cap ≤ length k.trace) →
    (f ≡ faults.OutOfMemory) ⊎ (first_fault (no_entry k.config (length k.trace) ∷ fs) ≡ Some f)
trace_refused k fs f h = inr (full k fs h.1 ∙ ap (λ e. Some e) (sym h.0))

pub name_refused : (k : Kept) (name : List ℕ) (fs : List (Option NodeFault)) (f : NodeFault) → HasRoom k →
    (f ≡ faults.OutOfMemory) ⊎ ((f ≡ faults.BadName) × (is_name name ≡ false)) →
    (f ≡ faults.OutOfMemory) ⊎ (first_fault (no_entry k.config (length k.trace) ∷ no_name name ∷ fs) ≡ Some f)
name_refused k name fs f room (inl memory) = inl memory
name_refused k name fs f room (inr bad) = inr (bad_name k name fs room bad.1 ∙ ap (λ e. Some e) (sym bad.0))

alone : (first : Option NodeFault) → first_fault (first ∷ None ∷ []) ≡ first
alone None = refl
alone (Some fault) = refl

pub first_is : (first : Option NodeFault) (fs : List (Option NodeFault)) (f : NodeFault) → first ≡ Some f →
    first_fault (first ∷ fs) ≡ Some f
first_is first fs f e = ap (λ o. first_fault (o ∷ fs)) e

pub load_text : (k : Kept) (text : List ℕ) (f : NodeFault) → HasRoom k →
    (f ≡ faults.OutOfMemory) ⊎ (bad_setting (setting_reading text) ≡ Some f) → IsRefusalOf k (Load text) [] f
load_text k text f room (inl memory) = inl memory
load_text k text f room (inr bad) = inr (rw (not_full k room) (first_is (bad_setting (setting_reading text)) _ f bad))

-- with none behind them
closed : (a b : Option NodeFault) → first_fault (a ∷ b ∷ None ∷ []) ≡ first_fault (a ∷ b ∷ [])
closed None None = refl
closed None (Some fault) = refl
closed (Some fault) b = refl

module _ (k : Kept) (name : List ℕ) (room : HasRoom k) (good : is_name name ≡ true) where
  pub shift_later : (term to amount : ℕ) → refusal k (Shift name term to amount) [] ≡ shift_refusal k.config
      (state_known k) name term to amount
  shift_later term to amount = later k name _ room good ∙ alone
      (shift_refusal k.config (state_known k) name term to amount)

  pub grant_later : (term amount : ℕ) → refusal k (Grant name term amount) [] ≡ grant_refusal k.config (state_known k)
      name term amount
  grant_later term amount = later k name _ room good ∙ alone (grant_refusal k.config (state_known k) name term amount)

  no_key_refusal : HasPlace k name → HasClocks k 1 → key_refusal (node_of k) name ≡ None
  no_key_refusal place clocks =
      let fits : is_too_great ((node_of k).marks.clock + 1) ≡ false =
      upto_most ((node_of k).marks.clock + 1) _ refl clocks in
      rw (place, fits) refl

  pub remove_later : refusal k (Remove name) [] ≡ key_refusal (node_of k) name
  remove_later = later k name _ room good ∙ closed (no_place (with_name name (state_known k).names))
      (no_clock (node_of k) 1)

  pub remove_fits : HasPlace k name → HasClocks k 1 → refusal k (Remove name) [] ≡ None
  remove_fits place clocks = remove_later ∙ no_key_refusal place clocks

  pub set_text : (text : List ℕ) (f : NodeFault) → bad_actions (reading text) ≡ Some f →
      refusal k (Set name text) [] ≡ Some f
  set_text text f bad = later k name _ room good ∙ first_is (bad_actions (reading text)) _ f bad

  pub set_later : (text : List ℕ) (terms : List TermValue) → reading text ≡ Ok terms →
      refusal k (Set name text) [] ≡ key_refusal (node_of k) name
  set_later text terms read =
      later k name _ room good
      ∙ ap (λ r. first_fault (bad_actions r ∷ no_place (with_name name (state_known k).names) ∷ no_clock (node_of k) 1 ∷
      None ∷ [])) read
      ∙ closed (no_place (with_name name (state_known k).names)) (no_clock (node_of k) 1)

  pub set_fits : (text : List ℕ) (terms : List TermValue) → reading text ≡ Ok terms → HasPlace k name → HasClocks k 1 →
      refusal k (Set name text) [] ≡ None
  set_fits text terms read place clocks = set_later text terms read ∙ no_key_refusal place clocks
