-- A replica with versions follows the steps of the node that it is kept for, by what its calls promise; and what it
-- says that changed since the version that another node is known to have is what differs.
use Rattle.std.proofs.Common.{◌≡◌, ℕ, ◌+◌, ◌≤◌, ◌==◌, max, Bool, true, false, cond, List, [], ◌∷◌, ◌++◌, Option, Some, None, Result, Ok, Err, ◌↔◌, refl, sym, ◌∙◌, ap, subst, arith}
use Rattle.std.proofs.lemmas.Bool.{true≢false}
use Rattle.std.specs.Option.{IsSome}
use Rattle.stamp_register.specs.Keys.{KeyValue}
use Rattle.operations.specs.Operations.{Operation, IsIn}
use Rattle.replica_state.specs.States.{State, with_key, with_pass, with_shifts}
use Rattle.replica_state.specs.Folds.{fold, clock_of}
use Rattle.replica_state.specs.Knowledge.{changes}
use Rattle.replica_state.specs.Deltas.{IsDelta}
use Rattle.replica_state.proofs.Changes.{changes_is_change}
use Rattle.message_format.specs.declared.fault.WireFault.{WireFault}
use Rattle.delta_exchange.specs.Changes.{ChangesAt, IsChangeSince}
use Rattle.message_format.specs.Messages.{MessageValue, operations_in}
use Rattle.delta_exchange.specs.Since.{IsMessageSince}
use Rattle.message_format.specs.Spelling.{SpellsMessage, message_bytes}
use Rattle.delta_exchange.specs.Versions.{VersionedValue, nothing_known, known_raised, acked_raised, ChangesTo, LearnsAll, Issues, Receives}
use Rattle.node_calls.specs.Asks.{Asked, Call, Message, message_of, emit_of}
use Rattle.node_calls.specs.Asks as asks
use Rattle.node_steps.specs.Nodes.{Node, start, state_shown}
use Rattle.node_steps.specs.Passes.{pass_ops}
use Rattle.node_core.specs.Steps.{after, operations_added, shift_under, version_after, known_after, acked_after}
use Rattle.node_steps.specs.Settings.{operations_issued, settings, new_key}
use Rattle.node_core.specs.Traces.{Kept, node_of, state_known, replay, replay_from, with_call}
use Rattle.node_core.specs.KeptVersions.{KeepsVersions}
use Rattle.node_core.specs.Deliveries.{TellsDelta}
use Rattle.node_core.proofs.Changed.{changes_kept, nothing_changes, changes_start, delta_is_changed}
use Rattle.node_core.proofs.LawfulSteps.{set_changes, pass_changes, shift_changes}
use Rattle.node_core.proofs.Pasts.{HasHistory, has_history}
use Rattle.node_core.proofs.CallFacts.{SetsPoint, LoadsPoints, PassesPoint, MovesRights, TakesMessage, MakesMessage}
use Rattle.node_core.proofs.SettingSteps.{issues_some, fold_issued}
use Rattle.node_core.proofs.TraceLemmas.{replay_more}

-- ---- one step

-- an ask that tells nothing of other nodes' versions
abbrev LeavesOthers : Node → Asked → Type 0
LeavesOthers n ask = (known_after n ask ≡ n.marks.known) × (acked_after n ask ≡ n.marks.acked)

module _ (i : ℕ) (n : Node) (ask : Asked) (words : List ℕ) (value : VersionedValue) (has : HasHistory n)
    (is : KeepsVersions n value) where
  abbrev added : List Operation
  added = operations_added i n ask words

  versions_after : (next : VersionedValue) → next.state ≡ fold (added ++ n.ops) →
      next.version ≡ version_after i n ask words → next.known ≡ known_after n ask → next.acked ≡ acked_after n ask →
      ((j : ℕ) → acked_after n ask j ≤ n.marks.version) → ChangesAt value.state next.state next.version value.last
      next.last → KeepsVersions (after i n ask words) next
  unfolding after
  versions_after next states versions known acked reached step =
      record {
        state_is = sym states;
        version_is = sym versions;
        known_is = sym known;
        acked_is = sym acked;
        changes = changes_kept n.past n.marks.version n.ops added value.last next.last has is.changes
            (subst (λ (v : State). ChangesAt v (fold (added ++ n.ops)) (version_after i n ask words) value.last
            next.last) (sym is.state_is)
            (subst (λ (v : State). ChangesAt value.state v (version_after i n ask words) value.last next.last) states
            (subst (λ (v : ℕ). ChangesAt value.state next.state v value.last next.last) versions step)));
        acked_reached = λ j. let most = reached j in omega (arith, most);
      }

  own_reached : LeavesOthers n ask → (j : ℕ) → acked_after n ask j ≤ n.marks.version
  own_reached leaves j = subst (λ (acked : ℕ → ℕ). acked j ≤ n.marks.version) (sym leaves.1) (is.acked_reached j)

  -- nothing changes
  versions_stay : changes (state_shown n) added ≡ false → LeavesOthers n ask → KeepsVersions (after i n ask words) value
  versions_stay e leaves =
      let same : n.marks.version ≡ n.marks.version + 0 = omega arith in
      versions_after value
      (sym is.state_is ∙ sym ((changes_is_change added n.ops).0 e))
      (sym is.version_is ∙ same ∙ sym (ap (λ t. n.marks.version + cond t 1 0) e))
      (sym is.known_is ∙ sym leaves.0)
      (sym is.acked_is ∙ sym leaves.1)
      (own_reached leaves)
      (nothing_changes value.state value.version value.last)

  -- one change
  versions_change : (state : State) (next : VersionedValue) → changes (state_shown n) added ≡ true →
      LeavesOthers n ask → state ≡ fold (added ++ n.ops) → ChangesTo value state next →
      KeepsVersions (after i n ask words) next
  versions_change state next e leaves shown step =
      versions_after next
      (step.state_is ∙ shown)
      (step.version ∙ ap (λ v. v + 1) (sym is.version_is) ∙ sym (ap (λ t. n.marks.version + cond t 1 0) e))
      (step.known ∙ sym is.known_is ∙ sym leaves.0)
      (step.acked ∙ sym is.acked_is ∙ sym leaves.1)
      (own_reached leaves)
      step.last

  -- operations are learned
  versions_learn : (told : List Operation) (next : VersionedValue) → told ≡ added → next.known ≡ known_after n ask →
      next.acked ≡ acked_after n ask → ((j : ℕ) → acked_after n ask j ≤ n.marks.version) → LearnsAll value told next →
      KeepsVersions (after i n ask words) next
  versions_learn told next same known acked reached step =
      versions_after next
      (step.state n.ops (sym is.state_is) ∙ ap (λ (ops : List Operation). fold (ops ++ n.ops)) same)
      (step.version
      ∙ ap (λ (v : ℕ). v + cond (changes value.state told) 1 0) (sym is.version_is)
      ∙ ap (λ (v : State). n.marks.version + cond (changes v told) 1 0) (sym is.state_is)
      ∙ ap (λ (ops : List Operation). n.marks.version + cond (changes (fold n.ops) ops) 1 0) same)
      known
      acked
      reached
      (step.last n.ops (sym is.state_is))

  versions_issue : (told : List Operation) (next : VersionedValue) → told ≡ added → LeavesOthers n ask →
      Issues value told next → KeepsVersions (after i n ask words) next
  versions_issue told next same leaves step =
      versions_learn told next same
      (step.known ∙ sym is.known_is ∙ sym leaves.0)
      (step.acked ∙ sym is.acked_is ∙ sym leaves.1)
      (own_reached leaves)
      step.learned

raised_reached : (source ack version : ℕ) (acked : ℕ → ℕ) → ack ≤ version → ((j : ℕ) → acked j ≤ version) → (j : ℕ) →
    acked_raised source ack acked j ≤ version
raised_reached source ack version acked l h j = at (j == source) (h j)
  where
    at : (t : Bool) → acked j ≤ version → cond t (max (acked j) ack) (acked j) ≤ version
    at true k = omega (arith, l, k)
    at false k = k

-- a message is received
versions_receive : (i : ℕ) (n : Node) (m : MessageValue) (words : List ℕ) (value next : VersionedValue) → HasHistory n →
    KeepsVersions n value → m.ack ≤ value.version → Receives value m next →
    KeepsVersions (after i n (asks.Deliver (Ok (message_of m))) words) next
versions_receive i n m words value next has is reached step =
    versions_learn i n (asks.Deliver (Ok (message_of m))) words value has is (operations_in m) next refl
    (step.known ∙ ap (λ (known : ℕ → ℕ). known_raised m.from m.base m.upto known) (sym is.known_is))
    (step.acked ∙ ap (λ (acked : ℕ → ℕ). acked_raised m.from m.ack acked) (sym is.acked_is))
    (raised_reached m.from m.ack n.marks.version n.marks.acked (subst (λ v. m.ack ≤ v) (sym is.version_is) reached)
    is.acked_reached)
    step.learned

-- ---- a new node

pub versions_start : (i : ℕ) → KeepsVersions (replay i []) nothing_known
unfolding replay_from
versions_start i = record {
  state_is = refl;
  version_is = refl;
  known_is = refl;
  acked_is = refl;
  changes = changes_start;
  acked_reached = λ j. omega arith;
}

-- ---- a trace one call longer

abbrev Settings : Type 0
Settings = List (List ℕ × Option (List ℕ))

issues_leave : (n : Node) (a : Asked) (s : List ℕ × Option (List ℕ)) (ss : Settings) → settings a ≡ s ∷ ss →
    LeavesOthers n a
issues_leave n (asks.Set name text) s ss h = (refl, refl)
issues_leave n (asks.Remove name) s ss h = (refl, refl)
issues_leave n (asks.Load text) s ss h = (refl, refl)
issues_leave n (asks.Pass name) s ss h = (refl, refl)
issues_leave n (asks.Shift name term to amount) s ss h = (refl, refl)
issues_leave n (asks.Grant name term amount) s ss h = (refl, refl)
issues_leave n (asks.Emit to versions chosen) s ss h = (refl, refl)
issues_leave n (asks.Deliver read) s ss h = absurd (let impossible : ◌≡◌ {A = Settings} [] (s ∷ ss) = h in cc)

module _ (k : Kept) (c : Call) (value : VersionedValue) (is : KeepsVersions (node_of k) value) where
  abbrev i : ℕ
  i = k.config.node

  abbrev n : Node
  n = node_of k

  has : HasHistory n
  has = has_history i k.trace

  -- what is kept with the next call
  abbrev KeepsThen : VersionedValue → Type 0
  KeepsThen next = KeepsVersions (node_of (with_call k c)) next

  put : (ask : Asked) (words : List ℕ) (next : VersionedValue) → c.ask ≡ ask → c.words ≡ words →
      KeepsVersions (after i n ask words) next → KeepsThen next
  put ask words next asked with h =
      subst (λ (m : Node). KeepsVersions m next) (sym (replay_more i start k.trace c))
      (subst (λ (a : Asked). KeepsVersions (after i n a c.words) next) (sym asked)
      (subst (λ (ws : List ℕ). KeepsVersions (after i n ask ws) next) (sym with) h))

  shown_then : (ask : Asked) (words : List ℕ) → c.ask ≡ ask → c.words ≡ words →
      state_known (with_call k c) ≡ fold (operations_added i n ask words ++ n.ops)
  unfolding after
  shown_then ask words asked with =
      ap (λ (m : Node). state_shown m) (replay_more i start k.trace c)
      ∙ ap (λ (a : Asked). fold (operations_added i n a c.words ++ n.ops)) asked
      ∙ ap (λ (ws : List ℕ). fold (operations_added i n ask ws ++ n.ops)) with

  -- a point gets a key
  pub set_versions : {name : List ℕ} {body : Option (List ℕ)} {next : VersionedValue} → SetsPoint k c name body →
      clock_of n.ops ≤ n.marks.clock →
      ChangesTo value (with_key name (new_key i n.marks.clock body) value.state) next → KeepsThen next
  set_versions {name = name} {body = body} {next = next} sets carried step =
      let issued : Settings = (name, body) ∷ [] in
      let adds : operations_added i n c.ask [] ≡ operations_issued i n.marks.clock issued =
      (issues_some c.ask (name, body) [] sets.setting).adds i n [] ∙
      ap (operations_issued i n.marks.clock) sets.setting in
      put c.ask [] next refl sets.drawn
      (versions_change i n c.ask [] value has is (with_key name (new_key i n.marks.clock body) value.state) next
      (ap (changes (state_shown n)) adds ∙ set_changes i n.marks.clock issued n.ops carried)
      (issues_leave n c.ask (name, body) [] sets.setting)
      (ap (with_key name (new_key i n.marks.clock body)) (sym is.state_is) ∙
      sym (fold_issued i n.marks.clock issued n.ops carried) ∙
      ap (λ (ops : List Operation). fold (ops ++ n.ops)) (sym adds))
      step)

  -- points are loaded
  pub load_versions : {text : List ℕ} {entries : ℕ} {told : List Operation} {next : VersionedValue} →
      LoadsPoints k c text entries → told ≡ operations_issued i n.marks.clock (settings (asks.Load text)) →
      Issues value told next → KeepsThen next
  load_versions {text = text} {told = told} {next = next} loads issued step =
      put (asks.Load text) [] next loads.asks loads.drawn
      (versions_issue i n (asks.Load text) [] value has is told next issued (refl, refl) step)

  -- a pass of a point that is set, and of one that isn't
  pub pass_versions : {name words : List ℕ} {spent : Option ℕ} {next : VersionedValue} →
      PassesPoint k c value.state name words true spent →
      state_known (with_call k c) ≡ with_pass name i spent value.state →
      ChangesTo value (with_pass name i spent value.state) next → KeepsThen next
  pass_versions {name = name} {words = words} {spent = spent} {next = next} passes shown step =
      put (asks.Pass name) words next passes.asks passes.drawn
      (versions_change i n (asks.Pass name) words value has is (with_pass name i spent value.state) next
      (ap (λ (v : State). changes v (pass_ops i v name words)) is.state_is ∙ ap (changes value.state) passes.ops ∙
      pass_changes i value.state name true spent)
      (refl, refl)
      (sym shown ∙ shown_then (asks.Pass name) words passes.asks passes.drawn)
      step)

  pub unset_versions : {name words : List ℕ} {spent : Option ℕ} →
      PassesPoint k c value.state name words false spent → KeepsThen value
  unset_versions {name = name} {words = words} passes =
      put (asks.Pass name) words value passes.asks passes.drawn
      (versions_stay i n (asks.Pass name) words value has is
      (ap (λ (v : State). changes v (pass_ops i v name words)) is.state_is ∙ ap (changes value.state) passes.ops)
      (refl, refl))

  -- rights are moved
  pub moved_versions : {ask : Asked} {name : List ℕ} {term to amount total : ℕ} {next : VersionedValue} →
      MovesRights k c ask name term to amount total →
      state_known (with_call k c) ≡ with_shifts name term i to total value.state →
      ChangesTo value (with_shifts name term i to total value.state) next → KeepsThen next
  moved_versions {ask = ask} {name = name} {term = term} {to = to} {amount = amount} {total = total} {next = next} moved
      shown step =
      let moves = moved.moves in
      put ask [] next moved.asks moved.drawn
      (versions_change i n ask [] value has is (with_shifts name term i to total value.state) next
      (ap (changes (state_shown n)) (moves.adds n) ∙ ap (λ (v : State). changes v
      (shift_under i v name term to amount (v.key name))) is.state_is ∙ by_key (value.state.key name) refl
      (subst (λ (v : State). IsSome (v.key name)) is.state_is moved.set.0))
      (moves.known n, moves.acked n)
      (sym shown ∙ shown_then ask [] moved.asks moved.drawn)
      step)
    where
      by_key : (found : Option KeyValue) → value.state.key name ≡ found → IsSome found →
          changes value.state (shift_under i value.state name term to amount found) ≡ true
      by_key None e some = absurd (true≢false (sym some))
      by_key (Some key) e some = shift_changes i value.state name term to amount key moved.may.some e

  -- a message is made
  pub emit_versions : {to : ℕ} {read : Result Message WireFault} → MakesMessage k c to read → KeepsThen value
  emit_versions {to = to} {read = read} makes = by_read read makes.asks
    where
      by_read : (r : Result Message WireFault) → c.ask ≡ emit_of to r → KeepsThen value
      by_read (Ok m) asked =
          put (emit_of to (Ok m)) [] value asked makes.drawn
          (versions_stay i n (emit_of to (Ok m)) [] value has is refl (refl, refl))
      by_read (Err fault) asked =
          let failed : Result Message WireFault = Err fault in
          put (emit_of to failed) [] value asked makes.drawn
          (versions_stay i n (emit_of to failed) [] value has is refl (refl, refl))

  -- a message is delivered, which acknowledges no version that is still to come
  pub deliver_versions : {read : Result Message WireFault} {later : ℕ} {m : MessageValue} {next : VersionedValue} →
      TakesMessage k c read later m → Receives value m next → KeepsThen next
  deliver_versions {m = m} {next = next} takes step =
      put (asks.Deliver (Ok (message_of m))) [] next (takes.takes.asks ∙ ap asks.Deliver takes.was) takes.takes.drawn
      (versions_receive i n m [] value next has is (subst (λ v. m.ack ≤ v) is.version_is takes.reached) step)

-- ---- a message

-- a message tells what differs where it tells what changed since the version that its receiver is known to have
pub told_changes : (k : Kept) (to : ℕ) (bytes : List ℕ) (value : VersionedValue) (m : MessageValue) →
    KeepsVersions (node_of k) value → SpellsMessage k.config.nodes bytes m →
    m.from ≡ k.config.node → m.to ≡ to → m.base ≡ value.acked to → m.upto ≡ value.version → m.ack ≡ value.known to →
    ((op : Operation) → IsIn op (operations_in m) ↔ IsChangeSince value.state value.last (value.acked to) op) →
    TellsDelta k to bytes
told_changes k to bytes value m is spelled sender receiver base upto ack told =
    record {
      message = m;
      spelled = spelled;
      sender = sender;
      receiver = receiver;
      versions = λ j. record {
        base = from_acked j;
        upto = (upto ∙ sym is.version_is) j;
        ack = (ack ∙ ap (λ (known : ℕ → ℕ). known to) (sym is.known_is)) j;
      };
      delta = delta;
    }
  where
    from_acked : m.base ≡ (node_of k).marks.acked to
    from_acked = base ∙ ap (λ (acked : ℕ → ℕ). acked to) (sym is.acked_is)

    reached : m.base ≤ (node_of k).marks.version
    reached = subst (λ v. v ≤ (node_of k).marks.version) (sym from_acked) (is.acked_reached to)

    delta : IsDelta ((node_of k).past m.base) (state_known k) (operations_in m)
    delta op =
        let here : IsIn op (operations_in m) ↔ IsChangeSince (state_known k) value.last m.base op =
        subst (λ (v : State). IsIn op (operations_in m) ↔ IsChangeSince v value.last m.base op) (sym is.state_is)
        (subst (λ (b : ℕ). IsIn op (operations_in m) ↔ IsChangeSince value.state value.last b op) (sym base)
        (told op)) in
        let there = delta_is_changed (node_of k).past (node_of k).marks.version (node_of k).ops value.last
        (has_history k.config.node k.trace) is.changes m.base reached op in
        ((λ h. there.1 (here.0 h)), (λ d. here.1 (there.0 d)))

-- what a replica with versions makes a message of, since the version that its receiver is known to have
pub told_since : (k : Kept) (to : ℕ) (value : VersionedValue) (m : MessageValue) → KeepsVersions (node_of k) value →
    IsMessageSince k.config.nodes k.config.node to (value.acked to) value m → TellsDelta k to (message_bytes m)
told_since k to value m is since =
    told_changes k to (message_bytes m) value m is (since.spelled, refl, since.short) since.sender since.receiver
    since.since since.upto since.ack since.changes
