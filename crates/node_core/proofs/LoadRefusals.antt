-- The refusals of a load whose text was read.
use Rattle.std.proofs.Common.{◌≡◌, ℕ, ◌+◌, ◌<◌, ◌≤◌, ◌^◌, true, false, List, [], ◌∷◌, length, map, Some, None, Ok, refl, sym, ◌∙◌, ap, arith, nat_lt}
use Rattle.std.proofs.lemmas.Bool.Decides.{nat_tests}
use Rattle.std.specs.Prelude.{nat_le}
use Rattle.actions.specs.Value.{TermValue}
use Rattle.actions.specs.SettingReading.{setting_reading}
use Rattle.replica_state.specs.States.{State}
use Rattle.replica_state.specs.Folds.{fold}
use Rattle.replica_state.specs.Unions.{with_names}
use Rattle.node_calls.specs.declared.fault.NodeFault.TheVariants as faults
use Rattle.node_calls.specs.Asks.{Load}
use Rattle.node_steps.specs.Nodes.{Node, state_shown}
use Rattle.node_core.specs.Room.{state_loaded, HasRoom, HavePlaces}
use Rattle.node_steps.specs.Outcomes.{state_set}
use Rattle.refusals.specs.Refusals.{first_fault}
use Rattle.counters.specs.Cells.{most}
use Rattle.node_steps.specs.Refusals.{no_clock, no_place}
use Rattle.node_steps.specs.Settings.{points_read, settings_of}
use Rattle.node_core.specs.Traces.{Kept, last_clock, node_of, refusal}
use Rattle.node_core.specs.Holds.{IsInStep}
use Rattle.node_core.proofs.SettingSteps.{names_loaded, names_set}

abbrev Points : Type 0
Points = List (List ℕ × List TermValue)

names_of_settings : (points : Points) → map (λ s. s.0) (settings_of points) ≡ map (λ point. point.0) points
names_of_settings [] = refl
names_of_settings (point ∷ points) = ap (λ ns. point.0 ∷ ns) (names_of_settings points)

-- what a node has found when a setting text is read and its names are known by themselves
pub record Loads (k : Kept) (clock version : ℕ) (state : State) (named : List (List ℕ)) (text : List ℕ)
    (points : Points) : Type 0 where
  pub step : IsInStep k clock version state
  pub room : HasRoom k
  pub read : setting_reading text ≡ Ok points
  pub named_is : named ≡ with_names (map (λ point. point.0) points) []

module _ {k : Kept} {clock version : ℕ} {state : State} {named : List (List ℕ)} {text : List ℕ} {points : Points}
    (x : Loads k clock version state named text points) {together : ℕ}
    (counted : together ≡ length (with_names named state.names)) where
  abbrev n : Node
  n = node_of k

  abbrev names : List (List ℕ)
  names = with_names (map (λ point. point.0) points) (state_shown n).names

  has_room : nat_le k.config.trace_cap (length k.trace) ≡ false
  has_room = let room = x.room in grind (arith, nat_tests, room)

  same : refusal k (Load text) [] ≡ first_fault (no_place names ∷ no_clock n (length points) ∷ None ∷ [])
  same = rw (has_room, x.read) refl

  -- the names are those of the points at any clock
  named_alone : (low : ℕ) → (state_set k.config.node low (settings_of points) (fold [])).names ≡ named
  unfolding fold
  named_alone low =
      names_set k.config.node low (settings_of points) (fold [])
      ∙ ap (λ ns. with_names ns []) (names_of_settings points)
      ∙ sym x.named_is

  with_known : length (with_names named (state_shown n).names) ≡ together
  with_known = ap (λ (v : State). length (with_names named v.names)) x.step.0.state_is ∙ sym counted

  as_many : length names ≡ together
  as_many =
      ap (λ ns. length (with_names ns (state_shown n).names)) (sym (names_of_settings points))
      ∙ ap length (sym (names_loaded k.config.node clock clock (settings_of points) n.ops x.step.0.carried))
      ∙ ap (λ ns. length (with_names ns (state_shown n).names)) (named_alone clock)
      ∙ with_known

  loaded_together : length (with_names (state_loaded k text).names (state_shown n).names) ≡ together
  loaded_together =
      ap (λ r. length (with_names (state_set k.config.node (last_clock k) (settings_of (points_read r)) (fold [])).names
      (state_shown n).names)) x.read
      ∙ ap (λ ns. length (with_names ns (state_shown n).names)) (named_alone (last_clock k))
      ∙ with_known

  pub have_places : together ≤ 256 → HavePlaces k (state_loaded k text).names
  have_places upto = let all = loaded_together in omega (arith, all, upto)

  few : together ≤ 256 → nat_lt 256 (length names) ≡ false
  few upto = let all = as_many in grind (arith, nat_tests, all, upto)

  many : 256 < together → nat_lt 256 (length names) ≡ true
  many more = let all = as_many in grind (arith, nat_tests, all, more)

  past : most < clock + length points → nat_lt most (n.marks.clock + length points) ≡ true
  past high = let at = x.step.0.clock_is in grind (arith, nat_tests, at, high)

  fits : clock + length points < 2 ^ 64 → nat_lt most (n.marks.clock + length points) ≡ false
  fits upto = let at = x.step.0.clock_is in grind (arith, nat_tests, at, upto)

  pub too_many_names : 256 < together → refusal k (Load text) [] ≡ Some faults.TooManyPoints
  too_many_names more = same ∙ rw (many more) refl

  pub clock_full : together ≤ 256 → most < clock + length points → refusal k (Load text) [] ≡ Some faults.ClockFull
  clock_full upto high = same ∙ rw (few upto, past high) refl

  pub no_refusal : together ≤ 256 → clock + length points < 2 ^ 64 → refusal k (Load text) [] ≡ None
  no_refusal upto low = same ∙ rw (few upto, fits low) refl
