-- The clock and the replica with versions of a node stay in step with its trace, when a call is put at its end.
use Rattle.std.proofs.Common.{◌≡◌, ◌≢◌, ℕ, ◌+◌, ◌<◌, ◌≤◌, ◌^◌, max, Bool, true, false, nat_lt, List, [], ◌∷◌, ◌++◌, length, map, Option, Some, None, Result, refl, sym, ◌∙◌, ap, drop, subst, arith}
use Rattle.std.proofs.lemmas.List.{drop-map, length-map, map-append}
use Rattle.std.specs.Int.{from_bool}
use Rattle.std.specs.Option.{IfSome, IsSome}
use Rattle.std.specs.Prelude.{pos, ◌≤ℤ◌}
use Rattle.replica_state.specs.States.{State, with_key, with_pass, with_shifts, budget_of, rights_of}
use Rattle.operations.specs.Operations.{Operation}
use Rattle.replica_state.specs.Folds.{fold, clock_of}
use Rattle.replica_state.specs.Knowledge.{is_upto, changes}
use Rattle.replica_state.proofs.Unions.{fold-union}
use Rattle.message_format.specs.declared.fault.WireFault.{WireFault}
use Rattle.message_format.specs.Messages.{MessageValue, operations_in}
use Rattle.delta_exchange.specs.Since.{CanBeTold}
use Rattle.delta_exchange.specs.Told.{HasLearned}
use Rattle.delta_exchange.specs.Versions.{VersionedValue, nothing_known, ChangesTo, Issues, MayPass, Receives}
use Rattle.node_steps.specs.declared.config.Config.{Config}
use Rattle.node_calls.specs.Told.{Told}
use Rattle.node_calls.specs.Asks.{Asked, Call, Message, Load, call_from}
use Rattle.node_core.specs.Holds.{IsInStep, CanTell}
use Rattle.node_core.specs.KeptVersions.{KeepsVersions, IsInStepWith}
use Rattle.node_steps.specs.Nodes.{Node}
use Rattle.node_steps.specs.Outcomes.{HasKey}
use Rattle.node_core.specs.Room.{state_loaded, HasRoom}
use Rattle.node_steps.specs.Refusals.{message_in}
use Rattle.node_steps.specs.Settings.{new_key, operations_issued, settings}
use Rattle.history.specs.Histories.{Calls, grown, no_calls}
use Rattle.node_core.specs.Traces.{Kept, kept_of, node_of, state_known, with_call}
use Rattle.node_core.proofs.InStep.{issue_in_step, load_in_step, pass_in_step, moved_in_step, deliver_in_step, emit_in_step}
use Rattle.node_core.proofs.KeptVersions.{versions_start, set_versions, load_versions, pass_versions, unset_versions, moved_versions, emit_versions, deliver_versions}
use Rattle.node_core.proofs.LawfulSteps.{unknown_key}
use Rattle.node_steps.proofs.Rights.{counted_by_rights}
use Rattle.node_core.proofs.SettingSteps.{fold_alone, turned}
use Rattle.node_core.proofs.CallFacts.{SetsPoint, LoadsPoints, PassesPoint, MovesRights, TakesMessage, MakesMessage}

-- a new node
pub new_with : (config : Config) → IsInStep (kept_of config no_calls) 0 0 (fold []) →
    IsInStepWith (kept_of config no_calls) 0 nothing_known
new_with config is = (is, versions_start config.node)

-- a key that is issued is above the one that its point has
pub key_above : (k : Kept) (clock : ℕ) (value : VersionedValue) → IsInStepWith k clock value →
    (name : List ℕ) (body : Option (List ℕ)) → is_upto (Some (new_key k.config.node clock body))
    (value.state.key name) ≡ false
key_above k clock value is name body =
    subst (λ (v : State). is_upto (Some (new_key k.config.node clock body)) (v.key name) ≡ false) is.1.state_is
    (unknown_key k.config.node clock body (node_of k).ops name is.0.0.carried)

-- a message to another node can tell of it what changed
pub can_be_told : (k : Kept) (clock : ℕ) (value : VersionedValue) → IsInStepWith k clock value → (to : ℕ) →
    to < k.config.nodes → to ≢ k.config.node → CanBeTold k.config.nodes k.config.node to value.state
can_be_told k clock value is to low apart = record {
  few_nodes = is.0.0.few;
  sender = is.0.0.own;
  receiver = low;
  apart = apart;
  lawful = ((node_of k).ops, sym is.1.state_is, is.0.1.lawful);
  few_names = subst (λ (v : State). length v.names ≤ 256) is.1.state_is is.0.1.few_names;
}

-- a pass can be counted, where there is room for its entry
pub may_pass : (k : Kept) (clock : ℕ) (value : VersionedValue) → IsInStepWith k clock value → HasRoom k →
    (name : List ℕ) (is_set : Bool) (spent : Option ℕ) → (is_set ≡ true → HasKey value.state name) →
    ((t : ℕ) → spent ≡ Some t → pos 1 ≤ℤ rights_of value.state name t k.config.node) → is_set ≡ true →
    MayPass value name k.config.node spent
may_pass k clock value is room name is_set spent key right set =
    let small = is.0.0.small in
    record {
      set = (key set).0;
      counted = by_spent spent right;
      hits = (let few = is.0.0.hits_few name in omega (arith, room, small, few));
      execs = room_for spent;
      version = (let few = is.0.1.few_versions in omega (arith, room, small, few));
    }
  where
    by_spent : (o : Option ℕ) → ((t : ℕ) → o ≡ Some t → pos 1 ≤ℤ rights_of value.state name t k.config.node) →
        IfSome o (λ term. IsSome (budget_of value.state name term))
    by_spent None rights = tt
    by_spent (Some t) rights = counted_by_rights value.state name t k.config.node 1 (omega arith) (rights t refl)

    room_for : (o : Option ℕ) → IfSome o (λ term. value.state.execs name term k.config.node + 1 < 2 ^ 64)
    room_for None = tt
    room_for (Some t) = let few = is.0.0.execs_few name t in let small = is.0.0.small in omega (arith, room, small, few)

-- a trace that takes one more call has fewer than its numbers can count
pub few_calls : (config : Config) (clock : ℕ) (value : VersionedValue) (calls now : Calls) →
    IsInStepWith (kept_of config calls) clock value → HasRoom (kept_of config calls) → now ≡ calls →
    length now.all < 2 ^ 56
few_calls config clock value calls now is room same =
    let small = is.0.0.small in
    let long = length-map calls.all (call_from config.nodes) in
    let more = ap (λ (c : Calls). length c.all) same in
    omega (arith, small, room, long, more)

-- a node whose trace grew by one call
pub kept_with : (config : Config) (old new : Calls) (t : Told) → new ≡ grown old t →
    kept_of config new ≡ with_call (kept_of config old) (call_from config.nodes t)
kept_with config old new t more =
    ap (kept_of config) more
    ∙ ap (λ (trace : List Call). record { config = config; trace = trace; from = old.from })
    (map-append (call_from config.nodes) old.all (t ∷ []))

-- what is kept of the calls of a node
pub kept_told : (config : Config) (calls : Calls) (k : Kept) (told : List Told) → kept_of config calls ≡ k →
    told ≡ drop calls.from calls.all → map (call_from k.config.nodes) told ≡ drop k.from k.trace
kept_told config calls k told is kept =
    subst (λ (n : Kept). map (call_from n.config.nodes) told ≡ drop n.from n.trace) is
    (ap (λ (ts : List Told). map (call_from config.nodes) ts) kept
    ∙ sym (drop-map (call_from config.nodes) calls.from calls.all))

-- the entries of a trace that grew by one
pub entries_with : (config : Config) (clock : ℕ) (value : VersionedValue) (old mid new : Calls) (e : Told) →
    new ≡ grown mid e → mid ≡ old →
    IsInStepWith (with_call (kept_of config old) (call_from config.nodes e)) clock value →
    IsInStepWith (kept_of config new) clock value
entries_with config clock value old mid new e more same is =
    subst (λ (k : Kept). IsInStepWith k clock value)
    (sym (kept_with config old new e (more ∙ ap (λ (c : Calls). grown c e) same))) is

module _ (k : Kept) (clock : ℕ) (value next : VersionedValue) (c : Call)
    (is : IsInStepWith k clock value) where
  abbrev i : ℕ
  i = k.config.node

  abbrev n : Node
  n = node_of k

  -- with the next call
  abbrev InStepThen : ℕ → Type 0
  InStepThen later = IsInStepWith (with_call k c) later next

  -- the node's version is the replica's
  together : (later version : ℕ) → IsInStep (with_call k c) later version next.state →
      KeepsVersions (node_of (with_call k c)) next → InStepThen later
  together later version step keeps = (
    (
      step.0,
      subst (λ v. CanTell k.config v (length (with_call k c).trace) (node_of (with_call k c)))
          (sym step.1.version_is ∙ keeps.version_is) step.1,
    ),
    keeps,
  )

  carried : clock_of n.ops ≤ n.marks.clock
  carried = let was = is.0.0.carried in let at = is.0.0.clock_is in omega (arith, was, at)

  -- a point gets a key
  pub set_with : {name : List ℕ} {body : Option (List ℕ)} → SetsPoint k c name body →
      ChangesTo value (with_key name (new_key i clock body) value.state) next → InStepThen (clock + 1)
  set_with {name = name} {body = body} sets step =
      together (clock + 1) (value.version + 1)
      (issue_in_step k clock value.version value.state next.state c is.0 sets step.state_is)
      (set_versions k c value is.1 sets carried
      (subst (λ (at : ℕ). ChangesTo value (with_key name (new_key i at body) value.state) next) (sym is.0.0.clock_is)
      step))

  -- points are loaded
  pub load_with : {text : List ℕ} {told : List Operation} {entries clocks : ℕ} → LoadsPoints k c text entries →
      clocks ≡ entries → told ≡ operations_issued i clock (settings (Load text)) → Issues value told next →
      InStepThen (clock + clocks)
  load_with {text} {told} {entries} {clocks} loads same issued step =
      together (clock + clocks) (value.version + from_bool (nat_lt 0 entries))
      (load_in_step k clock value.version value.state next.state c is.0 loads same merged)
      (load_versions k c value is.1 loads told_now step)
    where
      told_now : told ≡ operations_issued i n.marks.clock (settings (Load text))
      told_now = issued ∙ ap (λ (at : ℕ). operations_issued i at (settings (Load text))) (sym is.0.0.clock_is)

      merged : (a b : List Operation) → value.state ≡ fold a → state_loaded k text ≡ fold b →
          next.state ≡ fold (a ++ b)
      merged a b e f =
          step.learned.state a e ∙ turned told a
          ∙ fold-union a told a b refl (ap fold told_now ∙ sym (fold_alone i n.marks.clock (settings (Load text))) ∙ f)

  -- a point is passed
  pub pass_with : (is_set : Bool) {name words : List ℕ} {spent : Option ℕ} →
      PassesPoint k c value.state name words is_set spent →
      (is_set ≡ true → ChangesTo value (with_pass name i spent value.state) next) → (is_set ≡ false → next ≡ value) →
      InStepThen clock
  pass_with true passes step stays =
      let done = step refl in
      let grown : IsInStep (with_call k c) clock (value.version + 1) next.state =
      pass_in_step k clock value.version value.state next.state c is.0 passes done.state_is in
      together clock (value.version + 1) grown
      (pass_versions k c value is.1 passes (grown.0.state_is ∙ done.state_is) done)
  pass_with false passes step stays =
      let grown : IsInStep (with_call k c) clock (value.version + 0) next.state =
      pass_in_step k clock value.version value.state next.state c is.0 passes (ap (λ (v : VersionedValue). v.state) (stays refl)) in
      together clock (value.version + 0) grown
      (subst (λ (v : VersionedValue). KeepsVersions (node_of (with_call k c)) v) (sym (stays refl))
      (unset_versions k c value is.1 passes))

  -- rights are moved
  pub moved_with : {ask : Asked} {name : List ℕ} {term to amount total : ℕ} →
      MovesRights k c ask name term to amount total →
      ChangesTo value (with_shifts name term i to total value.state) next → InStepThen clock
  moved_with moved step =
      let grown : IsInStep (with_call k c) clock (value.version + 1) next.state =
      moved_in_step k clock value.version value.state next.state c is.0 moved step.state_is in
      together clock (value.version + 1) grown
      (moved_versions k c value is.1 moved (grown.0.state_is ∙ step.state_is) step)

  -- a message is delivered
  pub deliver_with : {read : Result Message WireFault} {m : MessageValue} {later last : ℕ} {changed : Bool} →
      TakesMessage k c read later m → changed ≡ changes value.state (operations_in m) → Receives value m next →
      last ≡ max clock later → InStepThen last
  deliver_with {m = m} {last = last} {changed = changed} takes changing step late =
      together last (value.version + from_bool changed)
      (deliver_in_step k clock value.version value.state next.state c is.0 takes.takes
      (subst (λ r. HasLearned value.state next.state (message_in r).ops) (sym takes.was) step.learned.state) late
      (subst (λ r. changed ≡ changes (state_known k) (message_in r).ops) (sym takes.was)
      (changing ∙ ap (λ (v : State). changes v (operations_in m)) (sym is.1.state_is))))
      (deliver_versions k c value is.1 takes step)

-- a message is made
pub emit_with : (k : Kept) (clock : ℕ) (value : VersionedValue) (c : Call) → IsInStepWith k clock value →
    (to : ℕ) (read : Result Message WireFault) → MakesMessage k c to read → IsInStepWith (with_call k c) clock value
emit_with k clock value c is to read makes =
    (emit_in_step k clock value.version value.state c is.0 makes, emit_versions k c value is.1 makes)
