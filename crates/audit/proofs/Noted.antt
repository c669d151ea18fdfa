-- What is noted of the last call of a node.
use Rattle.std.proofs.Common.{◌≡◌, ℕ, ◌+◌, ◌-◌, ◌<◌, not, cond, Bool, true, false, List, [], ◌∷◌, ◌++◌, length, map, take, Option, Some, None, Result, Ok, Err, refl, sym, ◌∙◌, ap, subst, arith, inr, ⊎_elim, slice_get}
use Rattle.std.specs.Prelude.{option_map, option_and_then}
use Rattle.std.proofs.lemmas.List.{length-map, length-take-le, map-append, take_more}
use Rattle.std.proofs.lemmas.Option.{slice_get_within, slice_get-get_or, get_or_from_slice_get}
use Rattle.std.proofs.lemmas.Slice.Eq.{bytes_eq-Decides}
use Rattle.std.specs.Bool.{then_some}
use Rattle.std.specs.Str.{bytes_eq}
use Rattle.refusals.specs.Refusals.{first_fault}
use Rattle.actions.specs.Value.{TermValue}
use Rattle.actions.specs.Names.{is_name}
use Rattle.actions.specs.Canonical.{canonical}
use Rattle.actions.specs.Reading.{reading}
use Rattle.actions.specs.declared.fault.ActionFault.{ActionFault}
use Rattle.stamp_register.specs.declared.key.Stamp.{Stamp}
use Rattle.stamp_register.specs.Keys.{KeyValue, stamp_of, key_le, terms_set}
use Rattle.operations.specs.Operations.{Operation, Set, count_of, count_under}
use Rattle.replica_state.specs.States.{State, with_name}
use Rattle.replica_state.specs.Folds.{fold, greater}
use Rattle.node_steps.specs.declared.config.Config.{Config}
use Rattle.node_calls.specs.declared.fault.NodeFault.TheVariants as faults
use Rattle.node_calls.specs.Told.{Told}
use Rattle.node_calls.specs.Told as tells
use Rattle.node_calls.specs.Asks.{Asked, Call, asked_from, call_from}
use Rattle.node_calls.specs.Asks as asks
use Rattle.node_steps.specs.Nodes.{Node, start, state_shown}
use Rattle.node_steps.specs.Outcomes.{state_set}
use Rattle.node_steps.specs.Refusals.{refusal_at, no_entry, no_name, no_place, no_clock, bad_actions, grant_refusal, spare_words}
use Rattle.node_core.specs.Steps.{after, shift_under}
use Rattle.node_steps.specs.Settings.{operations_issued, settings, settings_of, body_read, new_key}
use Rattle.node_core.specs.Traces.{Kept, node_of, state_known}
use Rattle.node_core.proofs.SettingSteps.{fold_issued, Issues, issues_load}
use Rattle.node_core.proofs.TraceLemmas.{replay_more}
use Rattle.cluster_model.specs.Histories.{keys_by}
use Rattle.audit.specs.Counts.{AreCountsOf, AddsKeys}
use Rattle.audit.specs.declared.counts.Counts.{Counts}
use Rattle.audit.specs.Points.{Points, point_read, points_set}
use Rattle.node_core.specs.Resumed.{IsLegalKept, IsLegalCall}
use Rattle.audit.specs.Tallies.{IsAfter, granted_by, amount_under}
use Rattle.audit.specs.Sums.{is_term}
use Rattle.audit.proofs.ClockKept.{replay_clock, last_set}
use Rattle.node_core.proofs.Repeated.{next_parts}

-- ---- what is accepted

first_none : {F : Type 0} (o : Option F) (rest : List (Option F)) → first_fault (o ∷ rest) ≡ None →
    (o ≡ None) × (first_fault rest ≡ None)
first_none None rest h = (refl, h)
first_none (Some f) rest h = absurd (cc h)

named : (name : List ℕ) → no_name name ≡ None → is_name name ≡ true
named name h = at (is_name name) h
  where
    at : (t : Bool) → then_some (not t) (faults.BadName) ≡ None → t ≡ true
    at true p = refl
    at false p = absurd (cc p)

read_ok : (text : List ℕ) → bad_actions (reading text) ≡ None → (terms : List TermValue) × (reading text ≡ Ok terms)
read_ok text h = at (reading text) refl h
  where
    at : (r : Result (List TermValue) ActionFault) → reading text ≡ r → bad_actions r ≡ None →
        (terms : List TermValue) × (reading text ≡ Ok terms)
    at (Ok terms) p q = (terms, p)
    at (Err fault) p q = absurd (cc q)

-- what a set that is accepted sets
set_points : (config : Config) (entries : ℕ) (n : Node) (name text words : List ℕ) →
    refusal_at config entries n (asks.Set name text) words ≡ None →
    settings (asks.Set name text) ≡ settings_of (points_set (asks.Set name text))
set_points config entries n name text words h =
    let first = first_none (no_entry config entries) (no_name name ∷ bad_actions (reading text) ∷
    no_place (with_name name (state_shown n).names) ∷ no_clock n 1 ∷ spare_words words ∷ []) h in
    let second = first_none (no_name name) (bad_actions (reading text) ∷
    no_place (with_name name (state_shown n).names) ∷ no_clock n 1 ∷ spare_words words ∷ []) first.1 in
    let third = first_none (bad_actions (reading text)) (no_place (with_name name (state_shown n).names) ∷
    no_clock n 1 ∷ spare_words words ∷ []) second.1 in
    let good = named name second.0 in
    let read = read_ok text third.0 in
    ap (λ r. (name, body_read r) ∷ []) read.1
    ∙ sym (ap (λ t. settings_of (cond t (point_read name (reading text)) [])) good ∙
    ap (λ r. settings_of (point_read name r)) read.1)

uncounted : (counts : Counts) (ops : List Operation) (name : List ℕ) (key : KeyValue) → key.body ≡ None →
    AreCountsOf counts ops → AreCountsOf counts (Set name key ∷ ops)
uncounted counts ops name key removed are = record {
  sound = λ other stamp term count h. let c = are.sound other stamp term count h in
      record { key = c.key; set = inr c.set; stamped = c.stamped; counted = c.counted };
  whole = λ other stamp term count c. ⊎_elim (λ e. absurd (never other term count c.key e c.counted))
      (λ k. are.whole other stamp term count (record {
        key = c.key;
        set = k;
        stamped = c.stamped;
        counted =
            c.counted;
      })) c.set;
}
  where
    never : (other : List ℕ) (term count : ℕ) (held : KeyValue) → Set other held ≡ Set name key →
        count_of held term ≡ Some count → ⊥
    never other term count held e h =
        let keys : held ≡ key = cc in
        let none : count_of held term ≡ None = ap (λ (x : KeyValue). count_of x term) keys ∙
        ap (λ b. count_under (terms_set b) term) removed in
        let clash : ◌≡◌ {A = Option ℕ} None (Some count) = sym none ∙ h in
        cc clash

-- the counted terms of the points are those of the keys
adds_points : (config : Config) (entries : ℕ) (n : Node) (a : Asked) (words : List ℕ) →
    refusal_at config entries n a words ≡ None → (old new : Counts) (i clock : ℕ) →
    AddsKeys old new (operations_issued i clock (settings_of (points_set a))) →
    AddsKeys old new (operations_issued i clock (settings a))
adds_points config entries n (asks.Set name text) words ok old new i clock h =
    subst (λ ss. AddsKeys old new (operations_issued i clock ss)) (sym (set_points config entries n name text words ok))
    h
adds_points config entries n (asks.Remove name) words ok old new i clock h =
    λ ops are. uncounted new ops name (new_key i clock None) refl (h ops are)
adds_points config entries n (asks.Load text) words ok old new i clock h = h
adds_points config entries n (asks.Pass name) words ok old new i clock h = h
adds_points config entries n (asks.Shift name term to amount) words ok old new i clock h = h
adds_points config entries n (asks.Grant name term amount) words ok old new i clock h = h
adds_points config entries n (asks.Emit to versions chosen) words ok old new i clock h = h
adds_points config entries n (asks.Deliver read) words ok old new i clock h = h

record SetsPoints (a : Asked) : Type 0 where
  issues : Issues a
  same : settings a ≡ settings_of (points_set a)

no_point : (ps : Points) (j : ℕ) (p : List ℕ × List TermValue) → ps ≡ [] → slice_get ps j ≡ Some p → ⊥
no_point [] j p e h = cc h
no_point (q ∷ ps) j p e h = cc e

sets_points : (config : Config) (entries : ℕ) (n : Node) (a : Asked) (words : List ℕ) →
    refusal_at config entries n a words ≡ None →
    (p : List ℕ × List TermValue) → slice_get (points_set a) (length (points_set a) - 1) ≡ Some p → SetsPoints a
sets_points config entries n (asks.Set name text) words ok p h =
    record {
      issues = record { adds = λ j m ws. refl; counts = λ m. refl };
      same =
          set_points config entries n name text words ok;
    }
sets_points config entries n (asks.Load text) words ok p h = record { issues = issues_load text; same = refl }
sets_points config entries n (asks.Remove name) words ok p h =
    absurd (no_point [] (length {A = List ℕ × List TermValue} [] - 1) p refl h)
sets_points config entries n (asks.Pass name) words ok p h =
    absurd (no_point [] (length {A = List ℕ × List TermValue} [] - 1) p refl h)
sets_points config entries n (asks.Shift name term to amount) words ok p h =
    absurd (no_point [] (length {A = List ℕ × List TermValue} [] - 1) p refl h)
sets_points config entries n (asks.Grant name term amount) words ok p h =
    absurd (no_point [] (length {A = List ℕ × List TermValue} [] - 1) p refl h)
sets_points config entries n (asks.Emit to versions chosen) words ok p h =
    absurd (no_point [] (length {A = List ℕ × List TermValue} [] - 1) p refl h)
sets_points config entries n (asks.Deliver read) words ok p h =
    absurd (no_point [] (length {A = List ℕ × List TermValue} [] - 1) p refl h)

take_all : (ps : Points) → take (length ps) ps ≡ ps
take_all [] = refl
take_all (p ∷ ps) = ap (λ qs. p ∷ qs) (take_all ps)

ends_with : (ps : Points) (p : List ℕ × List TermValue) → slice_get ps (length ps - 1) ≡ Some p →
    ps ≡ take (length ps - 1) ps ++ p ∷ []
ends_with ps p h =
    let below : length ps - 1 < length ps = slice_get_within ps (length ps - 1) p h in
    let whole : length ps ≡ length ps - 1 + 1 = omega (arith, below) in
    sym (take_all ps) ∙ ap (λ k. take k ps) whole ∙ take_more ps (length ps - 1) p below
    ∙ ap (λ q. take (length ps - 1) ps ++ q ∷ []) (get_or_from_slice_get ps (length ps - 1) p p h)

-- what is told, as a call of a node
abbrev call_in : Kept → Told → Call
call_in k t = call_from k.config.nodes t

module _ (k new : Kept) (e : Told) (is : IsAfter k new e) where
  abbrev i : ℕ
  i = k.config.node

  abbrev ask : Asked
  ask = (call_in k e).ask

  legal_call : IsLegalCall k.config (length k.trace) (node_of k) (call_in k e)
  legal_call = next_parts k (call_in k e) (subst IsLegalKept is.made is.legal)

  pub node_after : node_of new ≡ after k.config.node (node_of k) (call_in k e).ask (call_in k e).words
  node_after = ap node_of is.made ∙ replay_more k.config.node start k.trace (call_in k e)

  -- the key of the last point
  pub last_key : (p : List ℕ × List TermValue) → slice_get (points_set (call_in k e).ask)
      (length (points_set (call_in k e).ask) - 1) ≡ Some p →
      (state_known new).key p.0 ≡ Some (new_key k.config.node
      ((node_of k).marks.clock + (length (points_set (call_in k e).ask) - 1)) (Some (canonical p.1)))
  unfolding after
  last_key p h =
      let sets = sets_points k.config (length k.trace) (node_of k) (call_in k e).ask (call_in k e).words
      legal_call.agreed p h in
      let ps = points_set (call_in k e).ask in
      let n = node_of k in
      let front = take (length ps - 1) ps in
      let below : length ps - 1 < length ps = slice_get_within ps (length ps - 1) p h in
      let f : List ℕ × List TermValue → List ℕ × Option (List ℕ) = λ point. (point.0, Some (canonical point.1)) in
      let shape : settings (call_in k e).ask ≡ map f front ++ f p ∷ [] = sets.same ∙
      ap (λ qs. map f qs) (ends_with ps p h) ∙ map-append f front (p ∷ []) in
      let many : length (map f front) ≡ length ps - 1 = length-map front f ∙
      length-take-le (length ps - 1) ps (omega (arith, below)) in
      let state : state_known new ≡ state_set i n.marks.clock (map f front ++ f p ∷ []) (fold n.ops) =
      ap state_shown node_after
      ∙ ap (λ ops. fold (ops ++ n.ops)) (sets.issues.adds i n (call_in k e).words)
      ∙ fold_issued i n.marks.clock (settings (call_in k e).ask) n.ops (replay_clock i k.trace)
      ∙ ap (λ ss. state_set i n.marks.clock ss (fold n.ops)) shape in
      ap (λ (v : State). v.key p.0) state ∙ last_set i n.marks.clock (map f front) (f p) (fold n.ops)
      ∙ ap (λ m. Some (new_key i (n.marks.clock + m) (Some (canonical p.1)))) many

  -- a stamp that is there is that of the last point
  pub record IsLast (ps : Points) (stamp : Stamp) : Type 0 where
    pub clock : stamp.clock ≡ (node_of k).marks.clock + length ps
    pub node : stamp.node ≡ k.config.node

  abbrev pub found_stamp : Points → Option Stamp
  found_stamp ps = option_and_then (λ (p : List ℕ × List TermValue). option_map stamp_of ((state_known new).key p.0))
      (slice_get ps (length ps - 1))

  last_stamp : (o : Option (List ℕ × List TermValue)) → slice_get (points_set (call_in k e).ask)
      (length (points_set (call_in k e).ask) - 1) ≡ o →
      (stamp : Stamp) → option_and_then (λ (p : List ℕ × List TermValue). option_map stamp_of
      ((state_known new).key p.0)) o ≡ Some stamp → IsLast (points_set (call_in k e).ask) stamp
  last_stamp None h stamp f = absurd (cc f)
  last_stamp (Some p) h stamp f =
      let below : length (points_set (call_in k e).ask) - 1 < length (points_set (call_in k e).ask) =
      slice_get_within (points_set (call_in k e).ask) (length (points_set (call_in k e).ask) - 1) p h in
      let both : ◌≡◌ {A = Option Stamp} (Some (stamp_of (new_key k.config.node
      ((node_of k).marks.clock + (length (points_set (call_in k e).ask) - 1)) (Some (canonical p.1)))))
      (Some stamp) = sym (ap (option_map stamp_of) (last_key p h)) ∙ f in
      let same : stamp_of (new_key k.config.node ((node_of k).marks.clock + (length (points_set (call_in k e).ask) - 1))
      (Some (canonical p.1))) ≡ stamp = cc in
      let clock : (node_of k).marks.clock + (length (points_set (call_in k e).ask) - 1) + 1 ≡ stamp.clock =
      ap (λ (s : Stamp). s.clock) same in
      record { clock = omega (arith, clock, below); node = sym (ap (λ (s : Stamp). s.node) same) }

  pub is_last : (stamp : Stamp) → found_stamp (points_set (call_in k e).ask) ≡ Some stamp →
      IsLast (points_set (call_in k e).ask) stamp
  is_last stamp f = last_stamp (slice_get (points_set (call_in k e).ask) (length (points_set (call_in k e).ask) - 1))
      refl stamp f

  pub points_added : (old more : Counts) (stamp : Stamp) → found_stamp (points_set (call_in k e).ask) ≡ Some stamp →
      AddsKeys old more (operations_issued stamp.node (stamp.clock - length (points_set (call_in k e).ask))
      (settings_of (points_set (call_in k e).ask))) →
      AddsKeys old more (keys_by k.config.node (node_of k) (Some (call_in k e).ask))
  points_added old more stamp f h =
      let last = is_last stamp f in
      let clock : stamp.clock - length (points_set (call_in k e).ask) ≡ (node_of k).marks.clock =
      omega (arith, last.clock) in
      adds_points k.config (length k.trace) (node_of k) (call_in k e).ask (call_in k e).words legal_call.agreed old more
      k.config.node (node_of k).marks.clock
      (subst (λ m. AddsKeys old more (operations_issued m (node_of k).marks.clock
      (settings_of (points_set (call_in k e).ask)))) last.node
      (subst (λ m. AddsKeys old more (operations_issued stamp.node m (settings_of (points_set (call_in k e).ask))))
      clock h))

  no_points : (ps : Points) → slice_get ps (length ps - 1) ≡ None → ps ≡ []
  no_points [] h = refl
  no_points (p ∷ ps) h =
      let below : length (p ∷ ps) - 1 < length (p ∷ ps) = omega arith in
      absurd (let clash : ◌≡◌ {A = Option (List ℕ × List TermValue)} None (Some _) = sym h ∙
      slice_get-get_or (p ∷ ps) (length (p ∷ ps) - 1) p below in cc clash)

  none_last : (o : Option (List ℕ × List TermValue)) → slice_get (points_set (call_in k e).ask)
      (length (points_set (call_in k e).ask) - 1) ≡ o →
      option_and_then (λ (p : List ℕ × List TermValue). option_map stamp_of ((state_known new).key p.0)) o ≡ None →
      points_set (call_in k e).ask ≡ []
  none_last None h f = no_points (points_set (call_in k e).ask) h
  none_last (Some p) h f =
      absurd (let clash : ◌≡◌ {A = Option Stamp} None (Some _) = sym f ∙ ap (option_map stamp_of) (last_key p h) in
      cc clash)

  pub none_added : (counts : Counts) → found_stamp (points_set (call_in k e).ask) ≡ None →
      AddsKeys counts counts (keys_by k.config.node (node_of k) (Some (call_in k e).ask))
  none_added counts f =
      adds_points k.config (length k.trace) (node_of k) (call_in k e).ask (call_in k e).words legal_call.agreed counts
      counts k.config.node (node_of k).marks.clock
      (subst (λ ps. AddsKeys counts counts (operations_issued k.config.node (node_of k).marks.clock (settings_of ps)))
      (sym (none_last (slice_get (points_set (call_in k e).ask) (length (points_set (call_in k e).ask) - 1)) refl
      f)) (λ ops are. are))

-- ---- grants

one_key : (name : List ℕ) (key : KeyValue) (t : Bool) → t ≡ true →
    greater (cond t (Some key) None) (Some key) ≡ Some key
one_key name key t h = ap (λ b. greater (cond b (Some key) None) (Some key)) h ∙ at (key_le key key)
  where
    at : (b : Bool) → Some (cond b key key) ≡ Some key
    at true = refl
    at false = refl

grant_keeps : (i : ℕ) (n : Node) (name : List ℕ) (term amount : ℕ) (o : Option KeyValue) →
    (state_shown n).key name ≡ o →
    (fold (shift_under i (state_shown n) name term i amount o ++ n.ops)).key name ≡ (state_shown n).key name
unfolding fold
grant_keeps i n name term amount None h = refl
grant_keeps i n name term amount (Some key) h =
    ap (λ o. greater (cond (bytes_eq name name) (Some key) None) o) h ∙
    one_key name key (bytes_eq name name) ((bytes_eq-Decides name name).1 refl) ∙ sym h

module _ (k new : Kept) (e : Told) (is : IsAfter k new e) (name : List ℕ) (term amount : ℕ)
    (asked : e.ask ≡ tells.grants name term amount) where
  abbrev grant_asked : Asked
  grant_asked = asks.Grant name term amount

  asked_so : (call_in k e).ask ≡ asks.Grant name term amount
  asked_so = ap (λ a. asked_from k.config.nodes a e.reply) asked

  pub key_stays : (state_known new).key name ≡ (state_shown (node_of k)).key name
  unfolding after
  key_stays =
      ap (λ (n : Node). (state_shown n).key name)
      (node_after k new e is ∙ ap (λ a. after k.config.node (node_of k) a (call_in k e).words) asked_so)
      ∙ grant_keeps k.config.node (node_of k) name term amount
      ((state_shown (node_of k)).key name) refl

  pub grant_named : is_name name ≡ false → ⊥
  grant_named bad =
      let agreed : refusal_at k.config (length k.trace) (node_of k) (asks.Grant name term amount)
      (call_in k e).words ≡ None =
      subst (λ a. refusal_at k.config (length k.trace) (node_of k) a (call_in k e).words ≡ None) asked_so
      (legal_call k new e is).agreed in
      let rest = grant_refusal k.config (state_shown (node_of k)) name term amount ∷
      spare_words (call_in k e).words ∷ [] in
      let first = first_none (no_entry k.config (length k.trace)) (no_name name ∷ rest) agreed in
      let second = first_none (no_name name) rest first.1 in
      let clash : true ≡ false = sym (named name second.0) ∙ bad in
      cc clash

  under : (o : Option KeyValue) (stamp : Stamp) (other : Stamp) (k' : ℕ) → option_map stamp_of o ≡ Some stamp →
      amount_under o term amount other k' ≡ cond (is_term stamp term other k') amount 0
  under None stamp other k' h = absurd (cc h)
  under (Some key) stamp other k' h = let same : stamp_of key ≡ stamp = cc in
      ap (λ s. cond (is_term s term other k') amount 0) same

  pub grant_adds : (stamp : Stamp) → option_map stamp_of ((state_known new).key name) ≡ Some stamp →
      (other : Stamp) (k' : ℕ) →
      granted_by (node_of k) (call_in k e).ask other k' ≡ cond (is_term stamp term other k') amount 0
  grant_adds stamp h other k' =
      ap (λ a. granted_by (node_of k) a other k') asked_so
      ∙ under ((state_shown (node_of k)).key name) stamp other k'
      (sym (ap (option_map stamp_of) key_stays) ∙ h)

  none_under : (o : Option KeyValue) (other : Stamp) (k' : ℕ) → option_map stamp_of o ≡ None →
      amount_under o term amount other k' ≡ 0
  none_under None other k' h = refl
  none_under (Some key) other k' h = absurd (cc h)

  pub grant_none : option_map stamp_of ((state_known new).key name) ≡ None → (other : Stamp) (k' : ℕ) →
      granted_by (node_of k) (call_in k e).ask other k' ≡ 0
  grant_none h other k' =
      ap (λ a. granted_by (node_of k) a other k') asked_so
      ∙ none_under ((state_shown (node_of k)).key name) other k'
      (sym (ap (option_map stamp_of) key_stays) ∙ h)
