-- The state of a set knows what the set knows.
use Rattle.std.proofs.Common.{◌≡◌, ℕ, ◌≤◌, Bool, true, false, List, ◌⊎◌, inl, inr, ◌↔◌, ⊎_elim, Option, Some, None, refl, sym, ◌∙◌, ap, subst, arith}
use Rattle.std.proofs.lemmas.Bool.{true≢false, leb-true, le-leb}
use Rattle.stamp_register.specs.Keys.{KeyValue, key_le, same_key, IsLower}
use Rattle.operations.specs.Operations.{Cell, Hits, Execs, Shifts, Operation, Set, Count, IsWellFormed}
use Rattle.replica_state.specs.Folds.{fold, key_in, key_of, number_at, at_key}
use Rattle.replica_state.specs.Knowledge.{HoldsLater, HoldsKey, Knows, knows_count, knows}
use Rattle.replica_state.proofs.Orders.{same_key-true, same_key-refl}
use Rattle.replica_state.proofs.Sets.{KeyUpto, key_of-found, number_held}
use Rattle.replica_state.proofs.KnownSets.{Kind, exec_kind, shift_kind, value_of, own_name, known_key, later_at, no_greater}
use Rattle.replica_state.proofs.Changes.{upto_true, true_upto, count_known, known_count}

-- ---- keys

-- the key of the set is carried by an operation of it
holds_key : (name : List ℕ) (key : KeyValue) (ops : List Operation) (test : KeyValue → Type 0) →
    KeyUpto (Some key) (key_of name ops) → ((other : KeyValue) → key_of name ops ≡ Some other →
    key_le key other ≡ true → test other) → HoldsKey ops name test
holds_key name key ops test upto passes = at (key_of name ops) refl upto
  where
    at : (o : Option KeyValue) → key_of name ops ≡ o → KeyUpto (Some key) o → HoldsKey ops name test
    at None e h = absurd h
    at (Some other) e h =
        let found = key_of-found name other ops e in
        record { key = other; op = found.op; held = found.held; carries = found.carries; passes = passes other e h }

-- ---- counts

holds_later : (cell : Cell) (number : ℕ) (ops : List Operation) → 1 ≤ number → number ≤ number_at cell ops →
    HoldsLater ops cell number
holds_later cell number ops some upto =
    let there = number_held cell ops (λ z. absurd (omega (arith, z, some, upto))) in
    let most = there.2 in
    record { later = there.0; at_least = omega (arith, upto, most); held = there.1 }

module _ (name : List ℕ) (kind : Kind name) (key : KeyValue) (number : ℕ) (ops : List Operation) where
  -- under the set's own key the cell of the state is that of the key
  here : key_of name ops ≡ Some key → value_of kind ops ≡ number_at (kind.cell key) ops
  here e = ap (λ o. at_key o (λ k. number_at (kind.cell k) ops)) e

  count_held : 1 ≤ number → knows_count key number (value_of kind ops) (key_of name ops) ≡ true →
      HoldsLater ops (kind.cell key) number ⊎ HoldsKey ops name (IsLower key)
  count_held some h = at (key_of name ops) refl
    where
      known : KeyUpto (Some key) (key_of name ops) × ((key_of name ops ≡ Some key) → number ≤ value_of kind ops)
      known = count_known key number (value_of kind ops) (key_of name ops) h

      by_key : (other : KeyValue) → key_of name ops ≡ Some other → (b : Bool) → same_key other key ≡ b →
          HoldsLater ops (kind.cell key) number ⊎ HoldsKey ops name (IsLower key)
      by_key other e true s =
          let own = e ∙ ap Some (same_key-true other key s) in
          inl (holds_later (kind.cell key) number ops some (subst (λ x. number ≤ x) (here own) (known.1 own)))
      by_key other e false s = inr (holds_key name key ops (IsLower key) known.0 (λ found f upto. (
        upto,
        λ same.
            let is : Some other ≡ Some key = sym e ∙ f ∙ ap Some (sym same) in
            let one : other ≡ key = cc in
            true≢false (sym (subst (λ k. same_key other k ≡ true) one (same_key-refl other)) ∙ s),
      )))

      at : (o : Option KeyValue) → key_of name ops ≡ o → HoldsLater ops (kind.cell key) number ⊎ HoldsKey ops name
          (IsLower key)
      at None e = absurd (subst (KeyUpto (Some key)) e known.0)
      at (Some other) e = by_key other e (same_key other key) refl

  held_count : KeyUpto (Some key) (key_of name ops) → HoldsLater ops (kind.cell key) number ⊎ HoldsKey ops name
      (IsLower key) → knows_count key number (value_of kind ops) (key_of name ops) ≡ true
  held_count upto h = known_count key number (value_of kind ops) (key_of name ops) upto (λ e.
      ⊎_elim (λ later. subst (λ x. number ≤ x) (sym (here e)) (later_at (kind.cell key) number ops later))
      (λ k. absurd (no_greater name key ops e k)) h)

-- ---- operations

-- the key of what the set knows is not above the key of the set
upto_key : (ops : List Operation) (name : List ℕ) (key : KeyValue) (op : Operation) → key_in name op ≡ Some key →
    Knows ops op → KeyUpto (Some key) (key_of name ops)
upto_key ops name key op carries h = subst (λ k. KeyUpto k (key_of name ops)) carries (known_key name ops op h)

pub set_knows : (ops : List Operation) (op : Operation) → Knows ops op → knows (fold ops) op ≡ true
unfolding fold exec_kind shift_kind
set_knows ops (Set name key) h =
    true_upto (Some key) (key_of name ops) (upto_key ops name key (Set name key) (own_name name key) h)
set_knows ops (Count (Hits name node) number) h =
    le-leb number (number_at (Hits name node) ops) (later_at (Hits name node) number ops h)
set_knows ops (Count (Execs name key term node) number) h =
    held_count name (exec_kind name term node) key number ops
    (upto_key ops name key (Count (Execs name key term node) number) (own_name name key) h) h
set_knows ops (Count (Shifts name key term from to) number) h =
    held_count name (shift_kind name term from to) key number ops
    (upto_key ops name key (Count (Shifts name key term from to) number) (own_name name key) h) h

knows_set : (ops : List Operation) (op : Operation) → IsWellFormed op → knows (fold ops) op ≡ true → Knows ops op
unfolding fold exec_kind shift_kind
knows_set ops (Set name key) wf h = holds_key name key ops _ (upto_true (Some key) (key_of name ops) h)
    (λ other e upto. upto)
knows_set ops (Count (Hits name node) number) wf h = holds_later (Hits name node) number ops wf
    (leb-true number (number_at (Hits name node) ops) h)
knows_set ops (Count (Execs name key term node) number) wf h =
    count_held name (exec_kind name term node) key number ops wf.0 h
knows_set ops (Count (Shifts name key term from to) number) wf h =
    count_held name (shift_kind name term from to) key number ops wf.0 h

pub knows_as_set : (ops : List Operation) (op : Operation) → IsWellFormed op →
    (knows (fold ops) op ≡ true) ↔ Knows ops op
knows_as_set ops op wf = (knows_set ops op wf, set_knows ops op)
