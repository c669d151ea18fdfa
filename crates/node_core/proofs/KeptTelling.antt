-- A message can tell all that a node knows, when an entry is put at the end of its trace.
use Rattle.std.proofs.Common.{◌≡◌, ℕ, ◌+◌, ◌<◌, ◌≤◌, ◌^◌, Bool, true, false, nat_lt, List, [], ◌∷◌, ◌++◌, length, map, Option, Some, None, Result, Ok, Err, inl, inr, IsTrue, refl, subst, sym, ◌∙◌, ap, arith}
use Rattle.std.proofs.lemmas.List.{length-map}
use Rattle.std.proofs.lemmas.Bool.Decides.{nat_tests}
use Rattle.std.specs.Option.{IsSome}
use Rattle.std.proofs.lemmas.Bool.{true≢false}
use Rattle.std.specs.Prelude.{pos, ◌≤ℤ◌, is_some, option_map}
use Rattle.std.specs.Int.{from_bool}
use Rattle.actions.specs.Names.{is_name}
use Rattle.stamp_register.specs.Keys.{KeyValue}
use Rattle.replica_state.specs.States.{State, with_name, with_shifts, budget, budget_under, budget_of, rights_of}
use Rattle.operations.specs.Operations.{count_of}
use Rattle.replica_state.specs.Folds.{fold, clock_of}
use Rattle.replica_state.specs.Knowledge.{changes}
use Rattle.replica_state.specs.Unions.{with_names}
use Rattle.message_format.specs.declared.fault.WireFault.{WireFault}
use Rattle.message_format.specs.Spelling.{IsBody}
use Rattle.delta_exchange.specs.Wholes.{AreLawful}
use Rattle.delta_exchange.proofs.LawfulLemmas.{lawful_together}
use Rattle.node_steps.specs.declared.config.Config.{Config}
use Rattle.node_calls.specs.Asks.{Asked, Call, Message, Load, Pass, Deliver, emit_of}
use Rattle.node_steps.specs.Nodes.{Node, state_shown, setting_of}
use Rattle.node_steps.specs.Passes.{ops_of_pass}
use Rattle.node_steps.specs.Outcomes.{ops_done, state_done, AreTellable, IsHeld}
use Rattle.node_core.specs.Steps.{after, operations_added, shift_under}
use Rattle.node_steps.specs.Settings.{operations_issued, settings, points_in}
use Rattle.node_steps.specs.Refusals.{message_in}
use Rattle.node_core.specs.Traces.{Kept, node_of, replay}
use Rattle.node_core.specs.Holds.{Holds, CanTell}
use Rattle.node_core.proofs.SettingSteps.{Issues, issues_some, issues_load, fold_issued, names_set, names_loaded}
use Rattle.node_core.proofs.TraceLemmas.{holds_pass}
use Rattle.node_core.proofs.ShiftSteps.{MayMove, holds_moved}
use Rattle.node_core.proofs.CallFacts.{SetsPoint, LoadsPoints, PassesPoint, MovesRights, TakesIn, MakesMessage}
use Rattle.node_core.proofs.LawfulSteps.{set_lawful, pass_lawful, shift_lawful, set_changes, pass_changes, shift_changes}
use Rattle.node_core.proofs.Telling.{tell_grown, tell_after, shown_after, done_names, shift_names}

-- the key of a term with a budget counts it
counts_some : (v : State) (name : List ℕ) (term : ℕ) (key : KeyValue) → v.key name ≡ Some key →
    IsSome (budget_of v name term) → IsTrue (is_some (count_of key term))
counts_some v name term key here counted = by_count (count_of key term)
    (subst (λ (o : Option KeyValue). IsSome (budget_under v name term o)) here counted)
  where
    by_count : (found : Option ℕ) → IsSome (option_map (λ n. budget v name term key.node n) found) →
        IsTrue (is_some found)
    by_count None some = absurd (true≢false (sym some))
    by_count (Some n) some = refl

module _ (k : Kept) (clock version : ℕ) (state : State) (c : Call)
    (h : Holds k.config clock state (length k.trace) (node_of k))
    (t : CanTell k.config version (length k.trace) (node_of k)) where
  abbrev config : Config
  config = k.config

  abbrev n : Node
  n = node_of k

  -- with the next call, at this version
  abbrev TellsThen : ℕ → Type 0
  TellsThen later = CanTell config later (length (k.trace ++ c ∷ [])) (replay config.node (k.trace ++ c ∷ []))

  put : (later : ℕ) (ask : Asked) (words : List ℕ) → c.ask ≡ ask → c.words ≡ words →
      CanTell config later (length k.trace + 1) (after config.node n ask words) → TellsThen later
  put later ask words is with j =
      tell_grown config later k.trace c
      (subst (λ (a : Asked). CanTell config later (length k.trace + 1) (after config.node n a c.words)) (sym is)
      (subst (λ (ws : List ℕ). CanTell config later (length k.trace + 1) (after config.node n ask ws)) (sym with) j))

  clock_known : clock_of n.ops ≤ n.marks.clock
  clock_known = let was = h.carried in let at = h.clock_is in omega (arith, was, at)

  set_tell : (ask : Asked) → c.ask ≡ ask → c.words ≡ [] → Issues ask → n.marks.clock + length (settings ask) < 2 ^ 64 →
      AreTellable (settings ask) → length (with_names (map (λ s. s.0) (settings ask)) (state_shown n).names) ≤ 256 →
      TellsThen (version + from_bool (nat_lt 0 (length (settings ask))))
  set_tell ask is with issues fits each few =
      let adds : operations_added config.node n ask [] ≡ operations_issued config.node n.marks.clock (settings ask) =
      issues.adds config.node n [] in
      put (version + from_bool (nat_lt 0 (length (settings ask)))) ask [] is with
      (tell_after config version (length k.trace) n ask [] (nat_lt 0 (length (settings ask))) t
      (ap (changes (state_shown n)) adds ∙ set_changes config.node n.marks.clock (settings ask) n.ops clock_known)
      (subst (λ ops. AreLawful config.nodes (ops ++ n.ops)) (sym adds)
      (lawful_together config.nodes (operations_issued config.node n.marks.clock (settings ask)) n.ops
      (set_lawful config.nodes config.node n.marks.clock (settings ask) h.own fits each) t.lawful))
      (subst (λ ns. length ns ≤ 256) (sym (ap (λ ops. (fold (ops ++ n.ops)).names) adds ∙
      ap (λ (v : State). v.names) (fold_issued config.node n.marks.clock (settings ask) n.ops clock_known) ∙
      names_set config.node n.marks.clock (settings ask) (fold n.ops))) few))

  -- after one point got a key, after a load, after a pass, after rights were moved, after a message was made, and after
  -- a delivery
  pub issue_tell : {name : List ℕ} {body : Option (List ℕ)} → SetsPoint k c name body → TellsThen (version + 1)
  issue_tell {name = name} {body = body} sets =
      let setting = sets.setting in
      let few = sets.place in
      let all : length (with_name name (state_shown n).names) ≤ 256 = grind (arith, nat_tests, few) in
      subst (λ ss. TellsThen (version + from_bool (nat_lt 0 (length ss)))) setting
      (set_tell c.ask refl sets.drawn (issues_some c.ask (name, body) [] setting)
      (subst (λ ss. n.marks.clock + length ss < 2 ^ 64) (sym setting) sets.clocks)
      (subst AreTellable (sym setting) one)
      (subst (λ ss. length (with_names (map (λ s. s.0) ss) (state_shown n).names) ≤ 256) (sym setting) all))
    where
      one : AreTellable ((name, body) ∷ [])
      one s (inl e) = subst (λ (r : List ℕ × Option (List ℕ)). IsTrue (is_name r.0) × IsBody r.1) (sym e)
          (sets.named, sets.bodied)
      one s (inr k) = absurd k

  pub load_tell : {text : List ℕ} {entries : ℕ} → LoadsPoints k c text entries →
      TellsThen (version + from_bool (nat_lt 0 entries))
  load_tell {text = text} {entries = entries} loads =
      let as_many : entries ≡ length (settings (Load text)) = loads.count ∙ sym (length-map (points_in text) _) in
      subst (λ j. TellsThen (version + j)) (ap (λ j. from_bool (nat_lt 0 j)) (sym as_many))
      (set_tell (Load text) loads.asks loads.drawn (issues_load text)
      (subst (λ j. n.marks.clock + j < 2 ^ 64) as_many loads.clocks) loads.each
      (subst (λ ns. length ns ≤ 256)
      (names_loaded config.node n.marks.clock n.marks.clock (settings (Load text)) n.ops clock_known) loads.places))

  pub pass_tell : {name words : List ℕ} {is_set : Bool} {spent : Option ℕ} →
      PassesPoint k c state name words is_set spent → TellsThen (version + from_bool is_set)
  pass_tell {name = name} {words = words} {is_set = is_set} {spent = spent} passes =
      let same : fold n.ops ≡ state = h.state_is in
      let then = (holds_pass config {next = state_done config.node state name is_set spent} n name words h passes.room
      passes.ops passes.key (λ j s. (passes.right j s).1) refl).state_is in
      let adds : ops_of_pass config.node (state_shown n) name words (setting_of (state_shown n) name) ≡ ops_done
      config.node (fold n.ops) name is_set spent =
      ap (λ (v : State). ops_of_pass config.node v name words (setting_of v name)) same ∙ passes.ops ∙
      sym (ap (λ (v : State). ops_done config.node v name is_set spent) same) in
      put (version + from_bool is_set) (Pass name) words passes.asks passes.drawn
      (tell_after config version (length k.trace) n (Pass name) words is_set t
      (ap (changes (state_shown n)) adds ∙ pass_changes config.node (fold n.ops) name is_set spent)
      (subst (λ os. AreLawful config.nodes (os ++ n.ops)) (sym adds)
      (pass_lawful config.nodes config.node n.ops name is_set spent h.own t.lawful
      (λ b. subst (λ (v : State). IsSome (v.key name)) (sym same) (passes.key b).0)
      (λ j s. (
        (passes.right j s).0,
        subst (λ (v : State). pos 1 ≤ℤ rights_of v name j config.node) (sym same) (passes.right j s).1,
      ))))
      (subst (λ ns. length ns ≤ 256) (sym (sym (ap (λ (v : State). v.names)
      (shown_after config.node n (Pass name) words)) ∙ ap (λ (v : State). v.names) then ∙
      done_names config.node state name is_set spent ∙ ap (λ (v : State). v.names) (sym same))) t.few_names))

  pub moved_tell : {ask : Asked} {name : List ℕ} {term to amount total : ℕ} →
      MovesRights k c ask name term to amount total → TellsThen (version + 1)
  moved_tell {ask = ask} {name = name} {term = term} {to = to} {amount = amount} moved =
      by_key ((state_shown n).key name) refl moved.set.0
    where
      by_key : (found : Option KeyValue) → (state_shown n).key name ≡ found → IsSome found → TellsThen (version + 1)
      by_key None here some = absurd (true≢false (sym some))
      by_key (Some key) here some =
          let same : fold n.ops ≡ state = h.state_is in
          let may = moved.may in
          let adds : operations_added config.node n ask [] ≡ shift_under config.node (state_shown n) name term to amount
          (Some key) = moved.moves.adds n ∙
          ap (shift_under config.node (state_shown n) name term to amount) here in
          let then = (holds_moved config
          {next = with_shifts name term config.node to (state.shifts name term config.node to + amount) state}
          n ask moved.moves h moved.room
          (sym (ap (λ (v : State). v.key name) same) ∙ here)
          (subst (λ (v : State). IsHeld v name) same moved.set.1)
          (subst (λ (v : State). MayMove config v name term to amount) same may) refl).state_is in
          put (version + 1) ask [] moved.asks moved.drawn
          (tell_after config version (length k.trace) n ask [] true t
          (ap (changes (state_shown n)) adds ∙ shift_changes config.node (state_shown n) name term to amount key
          may.some here)
          (subst (λ os. AreLawful config.nodes (os ++ n.ops)) (sym adds)
          (shift_lawful config.nodes config.node n.ops name term to amount (h.own, may.there, may.some, moved.low)
          t.lawful here (counts_some (state_shown n) name term key here may.counted)))
          (subst (λ ns. length ns ≤ 256) (sym (sym (ap (λ (v : State). v.names) (shown_after config.node n ask [])) ∙
          ap (λ (v : State). v.names) then ∙ shift_names name term config.node to _ state ∙
          ap (λ (v : State). v.names) (sym same))) t.few_names))

  pub emit_tell : {to : ℕ} {read : Result Message WireFault} → MakesMessage k c to read → TellsThen version
  emit_tell {to = to} {read = read} makes = by_read read makes.asks
    where
      by_read : (r : Result Message WireFault) → c.ask ≡ emit_of to r → TellsThen version
      by_read (Ok m) is =
          let unchanged : version + 0 ≡ version = omega arith in
          subst (λ j. TellsThen j) unchanged
          (put (version + 0) (emit_of to (Ok m)) [] is makes.drawn
          (tell_after config version (length k.trace) n (emit_of to (Ok m)) [] false t refl t.lawful t.few_names))
      by_read (Err fault) is =
          let failed : Result Message WireFault = Err fault in
          let unchanged : version + 0 ≡ version = omega arith in
          subst (λ j. TellsThen j) unchanged
          (put (version + 0) (emit_of to failed) [] is makes.drawn
          (tell_after config version (length k.trace) n (emit_of to failed) [] false t refl t.lawful t.few_names))

  pub deliver_tell : {read : Result Message WireFault} {later : ℕ} {changed : Bool} → TakesIn k c read later →
      changed ≡ changes (state_shown n) (message_in read).ops → TellsThen (version + from_bool changed)
  deliver_tell {read = read} {changed = changed} takes changing =
      put (version + from_bool changed) (Deliver read) [] takes.asks takes.drawn
      (tell_after config version (length k.trace) n (Deliver read) [] changed t (sym changing)
      (lawful_together config.nodes (message_in read).ops n.ops takes.delivery.lawful t.lawful)
      takes.delivery.few_names)
