-- A call that is refused whatever a node knows is refused by each that has room for an entry.
use Rattle.std.proofs.Common.{◌≡◌, ℕ, false, List, [], ◌∷◌, map, length, Option, Some, None, ap}
use Rattle.std.specs.Bool.{then_some}
use Rattle.actions.specs.Reading.{reading}
use Rattle.actions.specs.SettingReading.{setting_reading}
use Rattle.node_calls.specs.Asks.{asked_first}
use Rattle.node_calls.specs.Told.{AskTold, sets, removes, loads, passes, shifts, grants, emits, delivers}
use Rattle.node_calls.specs.declared.fault.NodeFault.{NodeFault}
use Rattle.node_calls.specs.declared.fault.NodeFault.TheVariants as faults
use Rattle.node_steps.specs.declared.config.Config.{Config}
use Rattle.node_steps.specs.Nodes.{Node, state_shown}
use Rattle.node_steps.specs.Passes.{words_for}
use Rattle.node_steps.specs.Refusals.{bad_actions, bad_setting, bad_words, grant_refusal, is_full, no_clock, no_entry, no_name, no_place, refusal_at, shift_refusal, spare_words}
use Rattle.node_steps.specs.Settings.{points_in}
use Rattle.refusals.specs.Refusals.{first_fault}
use Rattle.replica_state.specs.States.{with_name}
use Rattle.replica_state.specs.Unions.{with_names}
use Rattle.thread_warnings.specs.Unfit.{why_refused}

module _ (fault : NodeFault) where
  -- behind a refusal that doesn't apply, the next one does
  first_of : (a b : Option NodeFault) (rest : List (Option NodeFault)) → a ≡ None → b ≡ Some fault →
      first_fault (a ∷ b ∷ rest) ≡ Some fault
  first_of (Some x) b rest none is = absurd cc
  first_of None (Some x) rest none is = is
  first_of None None rest none is = absurd cc

  -- or one of the next two
  second_of : (a b c : Option NodeFault) (rest : List (Option NodeFault)) → a ≡ None →
      first_fault (b ∷ c ∷ []) ≡ Some fault → first_fault (a ∷ b ∷ c ∷ rest) ≡ Some fault
  second_of (Some x) b c rest none is = absurd cc
  second_of None (Some x) c rest none is = is
  second_of None None (Some x) rest none is = is
  second_of None None None rest none is = absurd cc

module _ (config : Config) (entries : ℕ) (n : Node) (words : List ℕ) (fault : NodeFault)
    (room : is_full config entries ≡ false) where
  has_room : no_entry config entries ≡ None
  has_room = ap (λ b. then_some b faults.TraceFull) room

  pub refused_so : (call : AskTold) → why_refused call ≡ Some fault →
      refusal_at config entries n (asked_first config.nodes call) words ≡ Some fault
  refused_so (sets name text) is =
      second_of fault (no_entry config entries) (no_name name) (bad_actions (reading text))
      (no_place (with_name name (state_shown n).names) ∷ no_clock n 1 ∷ spare_words words ∷ []) has_room is
  refused_so (removes name) is =
      first_of fault (no_entry config entries) (no_name name)
      (no_place (with_name name (state_shown n).names) ∷ no_clock n 1 ∷ spare_words words ∷ []) has_room is
  refused_so (loads text) is =
      first_of fault (no_entry config entries) (bad_setting (setting_reading text))
      (no_place (with_names (map (λ point. point.0) (points_in text)) (state_shown n).names)
      ∷ no_clock n (length (points_in text)) ∷ spare_words words ∷ []) has_room is
  refused_so (passes name) is =
      first_of fault (no_entry config entries) (no_name name)
      (bad_words (words_for (state_shown n) name) words ∷ []) has_room is
  refused_so (shifts name term to amount) is =
      first_of fault (no_entry config entries) (no_name name)
      (shift_refusal config (state_shown n) name term to amount ∷ spare_words words ∷ []) has_room is
  refused_so (grants name term amount) is =
      first_of fault (no_entry config entries) (no_name name)
      (grant_refusal config (state_shown n) name term amount ∷ spare_words words ∷ []) has_room is
  refused_so (emits to) is = absurd cc
  refused_so (delivers bytes) is = absurd cc
