-- What a node holds stays in step with its trace, when an entry is put at its end.
use Rattle.std.proofs.Common.{◌≡◌, ℕ, ◌+◌, max, Bool, List, [], ◌∷◌, ◌++◌, length, Option, Some, None, Result, refl, subst, sym, ◌∙◌, ap}
use Rattle.std.proofs.lemmas.List.{length-map}
use Rattle.std.specs.Option.{IsSome}
use Rattle.std.proofs.lemmas.Bool.{true≢false}
use Rattle.stamp_register.specs.Keys.{KeyValue}
use Rattle.replica_state.specs.States.{State, with_key, with_shifts}
use Rattle.operations.specs.Operations.{Operation}
use Rattle.replica_state.specs.Folds.{fold}
use Rattle.message_format.specs.declared.fault.WireFault.{WireFault}
use Rattle.delta_exchange.specs.Told.{HasLearned}
use Rattle.node_steps.specs.declared.config.Config.{Config}
use Rattle.node_calls.specs.Asks.{Asked, Call, Message, Load, Pass, Deliver, emit_of}
use Rattle.node_steps.specs.Nodes.{Node}
use Rattle.node_steps.specs.Outcomes.{state_done, state_set, IsHeld}
use Rattle.node_core.specs.Room.{state_loaded, HasRoom}
use Rattle.node_core.specs.Steps.{after}
use Rattle.node_steps.specs.Settings.{new_key, operations_issued, settings, points_in}
use Rattle.node_steps.specs.Refusals.{message_in}
use Rattle.node_core.specs.Traces.{Kept, node_of, replay}
use Rattle.node_core.specs.Holds.{Holds}
use Rattle.node_core.proofs.TraceLemmas.{holds_grown, holds_pass}
use Rattle.node_core.proofs.SettingSteps.{Issues, issues_some, issues_load, fold_alone, fold_merged, holds_set}
use Rattle.node_core.proofs.DeliverySteps.{holds_emit, holds_delivered}
use Rattle.node_core.proofs.ShiftSteps.{MayMove, holds_moved}
use Rattle.node_core.proofs.CallFacts.{SetsPoint, LoadsPoints, PassesPoint, MovesRights, TakesIn, MakesMessage}

module _ (k : Kept) (clock : ℕ) (state next : State) (c : Call)
    (h : Holds k.config clock state (length k.trace) (node_of k)) where
  abbrev config : Config
  config = k.config

  abbrev n : Node
  n = node_of k

  -- with the next call, this clock and the next state
  abbrev HoldsThen : ℕ → Type 0
  HoldsThen later = Holds config later next (length (k.trace ++ c ∷ [])) (replay config.node (k.trace ++ c ∷ []))

  put : (later : ℕ) (ask : Asked) (words : List ℕ) → c.ask ≡ ask → c.words ≡ words →
      Holds config later next (length k.trace + 1) (after config.node n ask words) → HoldsThen later
  put later ask words is with j =
      holds_grown config later next k.trace c
      (subst (λ (a : Asked). Holds config later next (length k.trace + 1) (after config.node n a c.words)) (sym is)
      (subst (λ (ws : List ℕ). Holds config later next (length k.trace + 1) (after config.node n ask ws)) (sym with) j))

  set_kept : HasRoom k → (ask : Asked) → c.ask ≡ ask → c.words ≡ [] → Issues ask →
      next ≡ state_set config.node clock (settings ask) state → HoldsThen (clock + length (settings ask))
  set_kept room ask is with issues s = put (clock + length (settings ask)) ask [] is
      with (holds_set config clock state next (length k.trace) n ask issues h room s)

  -- after one point got a key, after a load, after a pass, and after rights were moved
  pub issue_kept : {name : List ℕ} {body : Option (List ℕ)} → SetsPoint k c name body →
      next ≡ with_key name (new_key config.node clock body) state → HoldsThen (clock + 1)
  issue_kept {name = name} {body = body} sets s =
      subst (λ ss. HoldsThen (clock + length ss)) sets.setting
      (set_kept sets.room c.ask refl sets.drawn (issues_some c.ask (name, body) [] sets.setting)
      (s ∙ ap (λ ss. state_set config.node clock ss state) (sym sets.setting)))

  pub load_kept : {text : List ℕ} {entries clocks : ℕ} → LoadsPoints k c text entries → clocks ≡ entries →
      ((a b : List Operation) → state ≡ fold a → state_loaded k text ≡ fold b → next ≡ fold (a ++ b)) →
      HoldsThen (clock + clocks)
  load_kept {text = text} {entries = entries} {clocks = clocks} loads same merged =
      let ss = settings (Load text) in
      let at : state_loaded k text ≡ state_set config.node clock ss (fold []) =
      ap (λ c. state_set config.node c ss (fold [])) h.clock_is in
      let as_many : clocks ≡ length ss = same ∙ loads.count ∙ sym (length-map (points_in text) _) in
      subst (λ j. HoldsThen (clock + j)) (sym as_many)
      (set_kept loads.room (Load text) loads.asks loads.drawn (issues_load text)
      (merged n.ops (operations_issued config.node clock ss) (sym h.state_is) (at ∙ fold_alone config.node clock ss) ∙
      fold_merged config.node clock ss n.ops h.carried ∙ ap (state_set config.node clock ss) h.state_is))

  pub pass_kept : {name words : List ℕ} {is_set : Bool} {spent : Option ℕ} →
      PassesPoint k c state name words is_set spent →
      next ≡ state_done config.node state name is_set spent → HoldsThen clock
  pass_kept {name = name} {words = words} passes s =
      put clock (Pass name) words passes.asks passes.drawn
      (holds_pass config n name words h passes.room passes.ops passes.key (λ t e. (passes.right t e).1) s)

  pub moved_kept : {ask : Asked} {name : List ℕ} {term to amount total : ℕ} →
      MovesRights k c ask name term to amount total →
      next ≡ with_shifts name term config.node to total state → HoldsThen clock
  moved_kept {ask = ask} {name = name} {term = term} {to = to} {amount = amount} moved s =
      by_key (state.key name) refl (subst (λ (v : State). IsSome (v.key name)) h.state_is moved.set.0)
    where
      by_key : (found : Option KeyValue) → state.key name ≡ found → IsSome found → HoldsThen clock
      by_key None here some = absurd (true≢false (sym some))
      by_key (Some key) here some =
          put clock ask [] moved.asks moved.drawn
          (holds_moved config n ask moved.moves h moved.room here
          (subst (λ (v : State). IsHeld v name) h.state_is moved.set.1)
          (subst (λ (v : State). MayMove config v name term to amount) h.state_is moved.may)
          (s ∙ ap (λ t. with_shifts name term config.node to t state)
          (moved.sum ∙ ap (λ (v : State). v.shifts name term config.node to + amount) h.state_is)))

  pub deliver_kept : {read : Result Message WireFault} {later last : ℕ} → TakesIn k c read later →
      HasLearned state next (message_in read).ops → last ≡ max clock later → HoldsThen last
  deliver_kept {read = read} {later = later} takes learned late =
      subst (λ j. HoldsThen j) (sym late)
      (put (max clock later) (Deliver read) [] takes.asks takes.drawn
      (holds_delivered config n read later h takes.room takes.delivery (learned n.ops (sym h.state_is))))

  -- a message that was made leaves the state
  pub emit_kept : {to : ℕ} {read : Result Message WireFault} → MakesMessage k c to read → next ≡ state →
      HoldsThen clock
  emit_kept {to = to} {read = read} makes same =
      put clock (emit_of to read) [] makes.asks makes.drawn
      (subst (λ (v : State). Holds config clock v (length k.trace + 1) (after config.node n (emit_of to read) []))
      (sym same) (holds_emit config clock state (length k.trace) n to read h makes.room))
