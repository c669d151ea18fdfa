-- What a node holds after one more call.
use Rattle.std.proofs.Common.{◌≡◌, ℕ, ◌+◌, ◌<◌, ◌≤◌, Bool, true, false, cond, ◌&&◌, eqb, List, [], ◌∷◌, ◌++◌, length, subst, length-append, Option, Some, None, refl, sym, ◌∙◌, ap, arith}
use Rattle.std.specs.Str.{bytes_eq}
use Rattle.std.specs.Option.{IsSome}
use Rattle.std.specs.Prelude.{pos, ◌≤ℤ◌}
use Rattle.stamp_register.specs.Keys.{KeyValue}
use Rattle.operations.specs.Operations.{Operation, Count, Hits, Execs, same_cell}
use Rattle.replica_state.specs.States.{State, with_name, with_hits, with_execs, with_pass, rights_of}
use Rattle.replica_state.specs.Folds.{fold, clock_of, names_of, key_of, number_at, at_key}
use Rattle.replica_state.proofs.FoldSteps.{fold_hits, fold_execs, max_zero, is_later, all_later, later_some, either_way}
use Rattle.message_format.specs.Limits.{max_nodes}
use Rattle.node_steps.specs.declared.config.Config.{Config}
use Rattle.node_calls.specs.Asks.{Call, Pass}
use Rattle.node_steps.specs.Nodes.{Node, max_trace_cap, start, state_shown, setting_of}
use Rattle.node_steps.specs.Passes.{next_hit, ops_of_pass}
use Rattle.node_steps.specs.Outcomes.{HasKey, execs_done, ops_done, state_done, IsHeld}
use Rattle.node_core.specs.Steps.{after}
use Rattle.node_core.specs.Traces.{replay_from, replay}
use Rattle.node_core.specs.Holds.{Holds}
use Rattle.node_steps.proofs.OwnRights.{HasOwn, own_start, own_done}

pub replay_more : (i : ℕ) (n : Node) (cs : List Call) (c : Call) →
    replay_from i n (cs ++ c ∷ []) ≡ after i (replay_from i n cs) c.ask c.words
unfolding replay_from
replay_more i n [] c = refl
replay_more i n (d ∷ cs) c = replay_more i (after i n d.ask d.words) cs c

fold_no_hits : (name : List ℕ) (i : ℕ) → (fold []).hits name i ≡ 0
unfolding fold
fold_no_hits name i = refl

fold_no_execs : (name : List ℕ) (k i : ℕ) → (fold []).execs name k i ≡ 0
unfolding fold
fold_no_execs name k i = refl

-- a new node
pub holds_new : (config : Config) (state : State) → config.node < config.nodes → config.nodes ≤ max_nodes →
    config.trace_cap ≤ max_trace_cap → state ≡ fold [] → Holds config 0 state 0 (replay config.node [])
unfolding replay_from
holds_new config state own few small e = record {
  own = own;
  few = few;
  small = small;
  capped = omega arith;
  clock_is = refl;
  state_is = sym e;
  carried = omega arith;
  hits_few = λ name. let h : state.hits name config.node ≡ 0 = ap (λ (v : State). v.hits name config.node) e ∙
      fold_no_hits name config.node in omega arith;
  execs_few = λ name k. let h : state.execs name k config.node ≡ 0 = ap (λ (v : State). v.execs name k config.node) e ∙
      fold_no_execs name k config.node in omega arith;
  own_rights = subst (λ (v : State). HasOwn v config.node) (sym e) (own_start config.node);
}

-- the replay of a trace one call longer
pub holds_grown : (config : Config) (clock : ℕ) (state : State) (trace : List Call) (c : Call) →
    Holds config clock state (length trace + 1) (after config.node (replay config.node trace) c.ask c.words) →
    Holds config clock state (length (trace ++ c ∷ [])) (replay config.node (trace ++ c ∷ []))
holds_grown config clock state trace c h =
    subst (λ (len : ℕ). Holds config clock state len (replay config.node (trace ++ c ∷ [])))
    (sym (length-append trace (c ∷ [])))
    (subst (λ (n : Node). Holds config clock state (length trace + 1) n) (sym (replay_more config.node start trace c))
    h)

-- a key that is held is no later than the clock
pub held_clock : (name : List ℕ) (ops : List Operation) (key : KeyValue) → key_of name ops ≡ Some key →
    key.clock ≤ clock_of ops
held_clock name ops key here =
    let top : KeyValue = record { clock = clock_of ops + 1; node = 0; body = None } in
    let h : key.clock < clock_of ops + 1 = later_some top key
    (subst (λ (o : Option KeyValue). is_later top o) here (all_later top name ops (omega arith))) in
    omega arith

-- there is a key wherever something is spent
abbrev HasSpent : Option KeyValue → Option ℕ → Type 0
HasSpent key None = Unit {0}
HasSpent key (Some term) = IsSome key

module _ (i : ℕ) (name : List ℕ) (ops : List Operation) (kept : with_name name (names_of ops) ≡ names_of ops) where
  -- a hit, and perhaps an execution
  fold_spent : (spent : Option ℕ) (key : Option KeyValue) → key_of name ops ≡ key → IsSome key →
      fold ((execs_done i (fold ops) name key spent ++ next_hit i (fold ops) name ∷ []) ++ ops) ≡ with_pass name i spent
      (fold ops)
  unfolding fold with_hits same_cell
  fold_spent None None here h = fold_hits name i ops kept
  fold_spent None (Some key) here h = fold_hits name i ops kept
  fold_spent (Some k) None here h = absurd (let impossible : false ≡ true = h in cc)
  fold_spent (Some k) (Some key) here h =
      let x : (fold ops).execs name k i ≡ number_at (Execs name key k i)
      (Count (Hits name i) (number_at (Hits name i) ops + 1) ∷ ops) =
      ap (λ (o : Option KeyValue). at_key o (λ a. number_at (Execs name a k i) ops)) here ∙
      sym (max_zero (number_at (Execs name key k i) ops)) in
      let after_hit : names_of (next_hit i (fold ops) name ∷ ops) ≡ names_of ops = either_way kept _ in
      fold_execs name key (Count (Hits name i) (number_at (Hits name i) ops + 1) ∷ ops) here k i
      ((fold ops).execs name k i) x (ap (λ (ns : List (List ℕ)). with_name name ns) after_hit ∙ kept ∙
      sym after_hit) ∙
      ap (λ (v : State). with_execs name k i ((fold ops).execs name k i + 1) v) (fold_hits name i ops kept)

  fold_done : (is_set : Bool) (spent : Option ℕ) → (is_set ≡ true → IsSome ((fold ops).key name)) →
      fold (ops_done i (fold ops) name is_set spent ++ ops) ≡ state_done i (fold ops) name is_set spent
  unfolding fold
  fold_done false spent h = refl
  fold_done true spent h = fold_spent spent (key_of name ops) refl (h refl)

spent_clock : (i : ℕ) (v : State) (name : List ℕ) (ops : List Operation) (spent : Option ℕ) (key : Option KeyValue) →
    key_of name ops ≡ key → clock_of ((execs_done i v name key spent ++ next_hit i v name ∷ []) ++ ops) ≤ clock_of ops
spent_clock i v name ops None None here = omega arith
spent_clock i v name ops None (Some key) here = omega arith
spent_clock i v name ops (Some k) None here = omega arith
spent_clock i v name ops (Some k) (Some key) here = let low : key.clock ≤ clock_of ops = held_clock name ops key here in
    omega arith

done_clock : (i : ℕ) (name : List ℕ) (ops : List Operation) (is_set : Bool) (spent : Option ℕ) →
    clock_of (ops_done i (fold ops) name is_set spent ++ ops) ≤ clock_of ops
unfolding fold
done_clock i name ops false spent = omega arith
done_clock i name ops true spent = spent_clock i (fold ops) name ops spent (key_of name ops) refl

one_more : (b : Bool) (x y len : ℕ) → x ≤ len → y ≤ len → cond b (x + 1) y ≤ len + 1
one_more true x y len p q = omega arith
one_more false x y len p q = omega arith

done_hits : (i : ℕ) (name : List ℕ) (v : State) (len : ℕ) → ((q : List ℕ) → v.hits q i ≤ len) →
    (is_set : Bool) (spent : Option ℕ) (q : List ℕ) → (state_done i v name is_set spent).hits q i ≤ len + 1
unfolding with_hits with_execs
done_hits i name v len h false spent q = let low = h q in omega arith
done_hits i name v len h true None q = one_more (bytes_eq name q && eqb i i) (v.hits name i) (v.hits q i) len (h name)
    (h q)
done_hits i name v len h true (Some k) q = one_more (bytes_eq name q && eqb i i) (v.hits name i) (v.hits q i) len
    (h name) (h q)

done_execs : (i : ℕ) (name : List ℕ) (v : State) (len : ℕ) → ((q : List ℕ) (t : ℕ) → v.execs q t i ≤ len) →
    (is_set : Bool) (spent : Option ℕ) (q : List ℕ) (t : ℕ) → (state_done i v name is_set spent).execs q t i ≤ len + 1
unfolding with_hits with_execs
done_execs i name v len h false spent q t = let low = h q t in omega arith
done_execs i name v len h true None q t = let low = h q t in omega arith
done_execs i name v len h true (Some k) q t = one_more (bytes_eq name q && (eqb k t && eqb i i)) (v.execs name k i)
    (v.execs q t i) len (h name k) (h q t)

kept_names : (name : List ℕ) (ops : List Operation) → IsHeld (fold ops) name →
    with_name name (names_of ops) ≡ names_of ops
unfolding fold
kept_names name ops h = h

module _ (config : Config) (state : State) (n : Node) (name words : List ℕ) where
  added_by : (is_set : Bool) (spent : Option ℕ) → state_shown n ≡ state →
      ops_of_pass config.node state name words (setting_of state name) ≡ ops_done config.node state name is_set spent →
      ops_of_pass config.node (state_shown n) name words (setting_of (state_shown n) name) ≡ ops_done config.node
      (state_shown n) name is_set spent
  added_by is_set spent e h =
      ap (λ (v : State). ops_of_pass config.node v name words (setting_of v name)) e ∙ h ∙
      sym (ap (λ (v : State). ops_done config.node v name is_set spent) e)

  fold_pass : (is_set : Bool) (spent : Option ℕ) → (is_set ≡ true → IsHeld (fold n.ops) name) →
      (is_set ≡ true → IsSome ((fold n.ops).key name)) → fold
      (ops_done config.node (fold n.ops) name is_set spent ++ n.ops) ≡ state_done config.node (fold n.ops) name is_set
      spent
  fold_pass false spent held h = refl
  fold_pass true spent held h = fold_done config.node name n.ops (kept_names name n.ops (held refl)) true spent h

-- after a pass
pub holds_pass : (config : Config) {clock : ℕ} {state next : State} {len : ℕ} (n : Node) (name words : List ℕ)
    {is_set : Bool} {spent : Option ℕ} → Holds config clock state len n → len < config.trace_cap →
    ops_of_pass config.node state name words (setting_of state name) ≡ ops_done config.node state name is_set spent →
    (is_set ≡ true → HasKey state name) →
    ((k : ℕ) → spent ≡ Some k → pos 1 ≤ℤ rights_of state name k config.node) →
    next ≡ state_done config.node state name is_set spent →
    Holds config clock next (len + 1) (after config.node n (Pass name) words)
unfolding after
holds_pass config {clock} {state} {next} {len} n name words {is_set} {spent} h room ops key right e =
    let same : fold n.ops ≡ state = h.state_is in
    let operations_added = added_by config state n name words is_set spent same ops in
    let held' : is_set ≡ true → IsHeld (fold n.ops) name =
    λ t. subst (λ (v : State). IsHeld v name) (sym same) (key t).1 in
    let key' : is_set ≡ true → IsSome ((fold n.ops).key name) =
    λ t. subst (λ (v : State). IsSome (v.key name)) (sym same) (key t).0 in
    let low = done_clock config.node name n.ops is_set spent in
    let carried : clock_of (ops_of_pass config.node (fold n.ops) name words (setting_of (fold n.ops) name) ++ n.ops) ≤
    clock_of n.ops = subst (λ (os : List Operation). clock_of (os ++ n.ops) ≤ clock_of n.ops)
    (sym operations_added) low in
    let was : clock_of n.ops ≤ clock = h.carried in
    record {
      own = h.own;
      few = h.few;
      small = h.small;
      capped = omega arith;
      clock_is = h.clock_is;
      state_is = ap (λ (os : List Operation). fold (os ++ n.ops)) operations_added ∙
          fold_pass config state n name words is_set spent held' key' ∙ ap (λ (v : State). state_done config.node v name is_set spent) same ∙
          sym e;
      carried = omega (arith, carried, was);
      hits_few = λ q. subst (λ (v : State). v.hits q config.node ≤ len + 1) (sym e)
          (done_hits config.node name state len h.hits_few is_set spent q);
      execs_few = λ q t. subst (λ (v : State). v.execs q t config.node ≤ len + 1) (sym e)
          (done_execs config.node name state len h.execs_few is_set spent q t);
      own_rights = subst (λ (v : State). HasOwn v config.node) (sym e)
          (own_done state name config.node is_set spent right h.own_rights);
    }
