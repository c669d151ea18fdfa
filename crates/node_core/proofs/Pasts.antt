-- The states that a node had at its versions so far: no step changes them, and each is below the next.
use Rattle.std.proofs.Common.{◌≡◌, ℕ, ◌≤◌, ◌+◌, ◌==◌, Bool, true, false, cond, List, [], ◌∷◌, ◌++◌, refl, sym, ◌∙◌, ap, subst, arith, ⊎_elim}
use Rattle.std.proofs.lemmas.Bool.{true≢false, cases_eq, eqb-true, eq-eqb}
use Rattle.operations.specs.Operations.{Operation}
use Rattle.replica_state.specs.States.{State}
use Rattle.replica_state.specs.Folds.{fold}
use Rattle.replica_state.specs.Knowledge.{changes}
use Rattle.replica_state.specs.StateOrder.{IsBelow, below-refl, below-trans}
use Rattle.replica_state.proofs.KnownSets.{union_above_right}
use Rattle.replica_state.proofs.Changes.{changes_is_change}
use Rattle.node_calls.specs.Asks.{Asked, Call}
use Rattle.node_steps.specs.Nodes.{Node, start}
use Rattle.node_core.specs.Steps.{after, operations_added, past_with}
use Rattle.node_core.specs.Traces.{replay, replay_from}

-- of the states at the versions so far each is that of some operations and below the next, the first is that of none,
-- and the last is the state now
pub record IsHistory (past : ℕ → State) (version : ℕ) (now : State) : Type 0 where
  pub folds : (v : ℕ) → (ops : List Operation) × (past v ≡ fold ops)
  pub first : past 0 ≡ fold []
  pub last : past version ≡ now
  pub grows : (u v : ℕ) → u ≤ v → v ≤ version → IsBelow (past u) (past v)

abbrev pub HasHistory : Node → Type 0
HasHistory n = IsHistory n.past n.marks.version (fold n.ops)

-- the version after operations are added
abbrev pub next_version : ℕ → State → List Operation → ℕ
next_version version now added = version + cond (changes now added) 1 0

pub past_now : (version : ℕ) (now : State) (past : ℕ → State) → past_with version now past version ≡ now
past_now version now past = at (version == version) (eq-eqb version version refl)
  where
    at : (t : Bool) → t ≡ true → cond t now (past version) ≡ now
    at true e = refl
    at false e = absurd (true≢false (sym e))

past_other : (version v : ℕ) (now : State) (past : ℕ → State) → (v ≡ version → past v ≡ now) →
    past_with version now past v ≡ past v
past_other version v now past f = at (v == version) (eqb-true v version)
  where
    at : (t : Bool) → (t ≡ true → v ≡ version) → cond t now (past v) ≡ past v
    at true e = sym (f (e refl))
    at false e = refl

past_fold : (version : ℕ) (ops : List Operation) (past : ℕ → State) (v : ℕ) →
    (made : List Operation) × (past v ≡ fold made) → (made : List Operation) ×
    (past_with version (fold ops) past v ≡ fold made)
past_fold version ops past v old = at (v == version)
  where
    at : (t : Bool) → (made : List Operation) × (cond t (fold ops) (past v) ≡ fold made)
    at true = (ops, refl)
    at false = old

module _ (past : ℕ → State) (version : ℕ) (ops added : List Operation) (has : IsHistory past version (fold ops)) where
  abbrev next : ℕ
  next = next_version version (fold ops) added

  abbrev past_then : ℕ → State
  past_then = past_with next (fold (added ++ ops)) past

  -- no step alters what was
  pub past_same : (v : ℕ) → v ≤ version → past_then v ≡ past v
  past_same v l = at (changes (fold ops) added) refl
    where
      at : (t : Bool) → changes (fold ops) added ≡ t → past_with (version + cond t 1 0) (fold (added ++ ops)) past v ≡
          past v
      at true e = past_other (version + 1) v (fold (added ++ ops)) past (λ s. absurd (omega arith))
      at false e = past_other (version + 0) v (fold (added ++ ops)) past (λ s.
          let same : v ≡ version = omega arith in
          ap past same ∙ has.last ∙ sym ((changes_is_change added ops).0 e))

  old_grows : (u v : ℕ) → u ≤ v → v ≤ version → IsBelow (past_then u) (past_then v)
  old_grows u v l m =
      let k : u ≤ version = omega arith in
      subst (λ (s : State). IsBelow s (past_then v)) (sym (past_same u k))
      (subst (IsBelow (past u)) (sym (past_same v m)) (has.grows u v l m))

  -- what was is below what is
  old_below : (u : ℕ) → u ≤ version → IsBelow (past_then u) (fold (added ++ ops))
  old_below u l =
      subst (λ (s : State). IsBelow s (fold (added ++ ops))) (sym (past_same u l))
      (below-trans (past u) (fold ops) (fold (added ++ ops))
      (subst (IsBelow (past u)) has.last (has.grows u version l (omega arith))) (union_above_right added ops))

  all_grow : (t : Bool) → changes (fold ops) added ≡ t → (u v : ℕ) → u ≤ v → v ≤ version + cond t 1 0 →
      IsBelow (past_then u) (past_then v)
  all_grow false e u v l m = old_grows u v l (omega arith)
  all_grow true e u v l m = ⊎_elim newest (λ ne. old_grows u v l (omega arith)) (cases_eq v (version + 1))
    where
      newest : v ≡ version + 1 → IsBelow (past_then u) (past_then v)
      newest s =
          let top : next ≡ v = ap (λ t. version + cond t 1 0) e ∙ sym s in
          let last : past_then v ≡ fold (added ++ ops) = subst (λ x. past_then x ≡ fold (added ++ ops)) top
          (past_now next (fold (added ++ ops)) past) in
          subst (IsBelow (past_then u)) (sym last) (⊎_elim
          (λ same. subst (λ (w : State). IsBelow w (fold (added ++ ops))) (sym last ∙ ap past_then (sym same))
          (below-refl (fold (added ++ ops))))
          (λ ne. old_below u (omega arith))
          (cases_eq u v))

  history_kept : IsHistory past_then next (fold (added ++ ops))
  history_kept =
      record {
        folds = λ v. past_fold next (added ++ ops) past v (has.folds v);
        first = past_same 0 (omega arith) ∙ has.first;
        last = past_now next (fold (added ++ ops)) past;
        grows = all_grow (changes (fold ops) added) refl;
      }

-- ---- a node

pub history_after : (i : ℕ) (n : Node) (ask : Asked) (words : List ℕ) → HasHistory n → HasHistory (after i n ask words)
unfolding after
history_after i n ask words has = history_kept n.past n.marks.version n.ops (operations_added i n ask words) has

pub past_after : (i : ℕ) (n : Node) (ask : Asked) (words : List ℕ) → HasHistory n → (v : ℕ) → v ≤ n.marks.version →
    (after i n ask words).past v ≡ n.past v
unfolding after
past_after i n ask words has v l = past_same n.past n.marks.version n.ops (operations_added i n ask words) has v l

pub version_after_grows : (i : ℕ) (n : Node) (ask : Asked) (words : List ℕ) →
    n.marks.version ≤ (after i n ask words).marks.version
unfolding after
version_after_grows i n ask words = omega arith

pub history_start : HasHistory start
history_start = record { folds = λ v. ([], refl); first = refl; last = refl; grows = λ u v l m. below-refl (fold []) }

-- ---- a trace

pub history_from : (i : ℕ) (n : Node) (trace : List Call) → HasHistory n → HasHistory (replay_from i n trace)
unfolding replay_from
history_from i n [] has = has
history_from i n (c ∷ trace) has = history_from i (after i n c.ask c.words) trace (history_after i n c.ask c.words has)

pub has_history : (i : ℕ) (trace : List Call) → HasHistory (replay i trace)
has_history i trace = history_from i start trace history_start

pub past_from : (i : ℕ) (n : Node) (trace : List Call) → HasHistory n → (v : ℕ) → v ≤ n.marks.version →
    (replay_from i n trace).past v ≡ n.past v
unfolding replay_from
past_from i n [] has v l = refl
past_from i n (c ∷ trace) has v l =
    let grows = version_after_grows i n c.ask c.words in
    past_from i (after i n c.ask c.words) trace (history_after i n c.ask c.words has) v (omega arith) ∙
    past_after i n c.ask c.words has v l

replay_append : (i : ℕ) (n : Node) (trace later : List Call) →
    replay_from i n (trace ++ later) ≡ replay_from i (replay_from i n trace) later
unfolding replay_from
replay_append i n [] later = refl
replay_append i n (c ∷ trace) later = replay_append i (after i n c.ask c.words) trace later

-- a version once passed keeps its state
pub past_stays : (i : ℕ) (trace later : List Call) (v : ℕ) → v ≤ (replay i trace).marks.version →
    (replay i (trace ++ later)).past v ≡ (replay i trace).past v
past_stays i trace later v l =
    ap (λ (n : Node). n.past v) (replay_append i start trace later) ∙
    past_from i (replay i trace) later (has_history i trace) v l
