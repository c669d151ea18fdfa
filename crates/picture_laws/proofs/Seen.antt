-- What a node has seen of what another one moved to it, event by event.
use Rattle.std.proofs.Common.{◌≡◌, ◌≢◌, ℕ, ◌≤◌, ◌==◌, max, cond, Bool, true, false, List, [], ◌∷◌, refl, sym, ◌∙◌, ap, subst, arith, ⊎_elim, Option, Some, None}
use Rattle.std.proofs.lemmas.Bool.{true≢false, eq-eqb}
use Rattle.stamp_register.specs.Keys.{KeyValue}
use Rattle.operations.specs.Operations.{Cell, Shifts, Operation, Count, writer_of}
use Rattle.replica_state.specs.States.{State}
use Rattle.replica_state.specs.Folds.{fold, key_of, number_at, at_key}
use Rattle.replica_state.proofs.Orders.{bytes_eq-refl}
use Rattle.replica_state.proofs.Sets.{number_at-least, number_at-mono, number_at-is_in, KeyUpto, KeyUpto-trans, KeyUpto-antisym, KeyUpto-same, key_of-mono, no_cell_above}
use Rattle.node_calls.specs.Asks.{Asked}
use Rattle.node_steps.specs.Nodes.{Node}
use Rattle.cluster_model.specs.Worlds.{Cluster, Event, accepted, node_after, world}
use Rattle.cluster_model.specs.Histories.{state_of, ops_delivered, is_under, state_under, shifts_under, seen}
use Rattle.cluster_model.proofs.Steps.{gains, keeps, holds_delivered, own_ops}
use Rattle.cluster_model.proofs.OwnCells.{not_same}
use Rattle.cluster_model.proofs.Rights.{is_key-of, is_key-some}

module _ (c : Cluster) (name : List ℕ) (key : KeyValue) (term : ℕ) where
  pub own_number : (ops : List Operation) (i j : ℕ) → (fold ops).key name ≡ Some key →
      (fold ops).shifts name term i j ≡ number_at (Shifts name key term i j) ops
  unfolding fold
  own_number ops i j e = ap (λ k. at_key k (λ key. number_at (Shifts name key term i j) ops)) e

  key_grows : (e : Event) (es : List Event) (j : ℕ) →
      KeyUpto ((state_of c es j).key name) ((state_of c (e ∷ es) j).key name)
  unfolding fold
  key_grows e es j = key_of-mono name ((world c es).node j).ops ((world c (e ∷ es)).node j).ops
      (keeps j ((world c es).node j) (accepted c (world c es) e j) e.words)

  -- once a node has the key, it has it or a greater one
  no_less : (es : List Event) (j : ℕ) (v : State) → state_under c es name key j ≡ Some v →
      KeyUpto (Some key) ((state_of c es j).key name)
  no_less [] j v h = absurd (cc)
  no_less (e ∷ es) j v h = at (no_less es j v) (is_under c (e ∷ es) name key j) refl h
    where
      at : (state_under c es name key j ≡ Some v → KeyUpto (Some key) ((state_of c es j).key name)) → (t : Bool) →
          is_under c (e ∷ es) name key j ≡ t →
          cond t (Some (state_of c (e ∷ es) j)) (state_under c es name key j) ≡ Some v →
          KeyUpto (Some key) ((state_of c (e ∷ es) j).key name)
      at before true u g = KeyUpto-same _ _ (sym (is_key-of key ((state_of c (e ∷ es) j).key name) u))
      at before false u g = KeyUpto-trans (Some key) ((state_of c es j).key name) ((state_of c (e ∷ es) j).key name)
          (before g) (key_grows e es j)

  last_under : (es : List Event) (j : ℕ) → is_under c es name key j ≡ true → state_under c es name key j ≡ Some (state_of c es j)
  unfolding fold
  last_under [] j u = absurd (true≢false (sym u))
  last_under (e ∷ es) j u = ap (λ t. cond t (Some (state_of c (e ∷ es) j)) (state_under c es name key j)) u

  -- where the node has the key after an event, what it had seen before is what its operations said
  seen_before : (e : Event) (es : List Event) (i j : ℕ) → (i == j) ≡ false → is_under c (e ∷ es) name key j ≡ true →
      seen c es name key term i j ≡ number_at (Shifts name key term i j) ((world c es).node j).ops
  unfolding fold
  seen_before e es i j apart u = at (is_under c es name key j) refl
    where
      ops : List Operation
      ops = ((world c es).node j).ops

      now : (state_of c (e ∷ es) j).key name ≡ Some key
      now = is_key-of key ((state_of c (e ∷ es) j).key name) u

      other : seen c es name key term i j ≡ shifts_under (state_under c es name key j) name term i j
      other = ap (λ t. cond t 0 (shifts_under (state_under c es name key j) name term i j)) apart

      not_above : is_under c es name key j ≡ false → KeyUpto (Some key) (key_of name ops) → ⊥
      not_above f up =
          let same : Some key ≡ key_of name ops = KeyUpto-antisym (Some key) (key_of name ops) up
          (subst (KeyUpto (key_of name ops)) now (key_grows e es j)) in
          true≢false (sym (is_key-some key (key_of name ops) (sym same)) ∙ f)

      none_seen : is_under c es name key j ≡ false → (o : Option State) → state_under c es name key j ≡ o →
          shifts_under o name term i j ≡ 0
      none_seen f None g = refl
      none_seen f (Some v) g = absurd (not_above f (no_less es j v g))

      at : (t : Bool) → is_under c es name key j ≡ t → seen c es name key term i j ≡ number_at (Shifts name key term i j) ops
      at true v = other ∙ ap (λ o. shifts_under o name term i j) (last_under es j v)
          ∙ own_number ops i j (is_key-of key ((state_of c es j).key name) v)
      at false v = other ∙ none_seen v (state_under c es name key j) refl
          ∙ sym (no_cell_above name (Shifts name key term i j) key ops
          (ap (λ t. cond t (Some key) None) (bytes_eq-refl name)) (not_above v))

  -- what others wrote comes to a node by deliveries alone
  others_number : (cell : Cell) (j : ℕ) (n : Node) (a : Option Asked) (words : List ℕ) → (writer_of (Count cell 0) ≡ j → ⊥) →
      number_at cell (node_after j n a words).ops ≡ max (number_at cell (ops_delivered a)) (number_at cell n.ops)
  others_number cell j n a words else_ =
      let all : List Operation = (node_after j n a words).ops in
      let up : number_at cell all ≤ max (number_at cell (ops_delivered a)) (number_at cell n.ops) =
      number_at-least cell (max (number_at cell (ops_delivered a)) (number_at cell n.ops)) all (λ m h. ⊎_elim
      (λ k. absurd (else_ (own_ops j n a words (Count cell m) k)))
      (λ k. ⊎_elim
      (λ l. let most = number_at-is_in cell m (ops_delivered a) l in omega (arith, most))
      (λ l. let most = number_at-is_in cell m n.ops l in omega (arith, most))
      k)
      (gains j n a words (Count cell m) h)) in
      let came = number_at-mono cell (ops_delivered a) all (λ m h. holds_delivered j n a words (Count cell m) h) in
      let kept = number_at-mono cell n.ops all (λ m h. keeps j n a words (Count cell m) h) in
      omega (arith, up, came, kept)

  pub seen_step : (e : Event) (es : List Event) (i j : ℕ) → i ≢ j →
      seen c (e ∷ es) name key term i j ≡ cond (is_under c (e ∷ es) name key j)
      (max (number_at (Shifts name key term i j) (ops_delivered (accepted c (world c es) e j))) (seen c es name key term i j))
      (seen c es name key term i j)
  unfolding fold
  seen_step e es i j ne = at (is_under c (e ∷ es) name key j) refl
    where
      apart : (i == j) ≡ false
      apart = not_same i j (λ e. ne (sym e))

      came : List Operation
      came = ops_delivered (accepted c (world c es) e j)

      last : Bool → Option State
      last t = cond t (Some (state_of c (e ∷ es) j)) (state_under c es name key j)

      at : (t : Bool) → is_under c (e ∷ es) name key j ≡ t →
          seen c (e ∷ es) name key term i j ≡ cond t (max (number_at (Shifts name key term i j) came)
          (seen c es name key term i j)) (seen c es name key term i j)
      at true u =
          ap (λ t. cond t 0 (shifts_under (last (is_under c (e ∷ es) name key j)) name term i j)) apart
          ∙ ap (λ t. shifts_under (last t) name term i j) u
          ∙ own_number ((world c (e ∷ es)).node j).ops i j (is_key-of key ((state_of c (e ∷ es) j).key name) u)
          ∙ others_number (Shifts name key term i j) j ((world c es).node j) (accepted c (world c es) e j) e.words
          (λ s. ne s)
          ∙ ap (λ k. max (number_at (Shifts name key term i j) came) k) (sym (seen_before e es i j apart u))
      at false u =
          ap (λ t. cond (i == j) 0 (shifts_under (last t) name term i j)) u

  -- of itself a node has seen nothing
  pub seen_self : (es : List Event) (i : ℕ) → seen c es name key term i i ≡ 0
  seen_self es i = at (i == i) refl
    where
      at : (t : Bool) → (i == i) ≡ t → cond t 0 (shifts_under (state_under c es name key i) name term i i) ≡ 0
      at true e = refl
      at false e = absurd (eqb-false_here e)
        where
          eqb-false_here : (i == i) ≡ false → ⊥
          eqb-false_here f = true≢false (sym (eq-eqb i i refl) ∙ f)
