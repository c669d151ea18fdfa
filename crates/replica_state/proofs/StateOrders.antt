-- The union is the least state above both.
use Rattle.std.proofs.Common.{◌≡◌, ℕ, ◌≤◌, true, cond, List, ◌⊎◌, inl, inr, refl, sym, ◌∙◌, ap, subst, arith, Option, Some, None}
use Rattle.std.proofs.lemmas.Cmp.{nat_list_cmp_total, tied_itself}
use Rattle.std.specs.Ordering.{nat_cmp, is_le, ordering_reverse}
use Rattle.std.specs.Cmp.Lexicographic.{slice_cmp}
use Rattle.std.specs.declared.cmp.Ordering.{Ordering}
use Rattle.std.specs.declared.cmp.Ordering.TheVariants.{Less, Equal, Greater}
use Rattle.stamp_register.specs.Keys.{KeyValue, key_rank, key_le}
use Rattle.replica_state.specs.States.{State}
use Rattle.replica_state.specs.Folds.{greater}
use Rattle.replica_state.specs.StateOrder.{IsKeyBelow, IsBelowAt, IsBelow}
use Rattle.replica_state.specs.Unions.{key_order, number_both, union_of}
use Rattle.replica_state.proofs.Orders.{key_le-antisym}

-- ---- keys

-- a key above the one that is held is the greater of the two
pub stands_above : (held key : Option KeyValue) → key_order key held ≡ Greater →
    IsKeyBelow held key × (greater held key ≡ key)
stands_above None None e = absurd (cc)
stands_above (Some a) None e = absurd (cc)
stands_above None (Some b) e = (tt, refl)
stands_above (Some a) (Some b) e =
    let less : slice_cmp nat_cmp (key_rank a) (key_rank b) ≡ Less =
    nat_list_cmp_total.antisymm (key_rank a) (key_rank b) ∙ ap ordering_reverse e in
    let le : key_le a b ≡ true = ap is_le less in (
      (
        le,
        λ s. let tied : slice_cmp nat_cmp (key_rank b) (key_rank b) ≡ Equal =
            tied_itself nat_list_cmp_total (key_rank b) in
            let above : slice_cmp nat_cmp (key_rank b) (key_rank b) ≡ Greater =
            subst (λ k. slice_cmp nat_cmp (key_rank b) (key_rank k) ≡ Greater) s e in
            cc,
      ),
      ap (λ t. Some (cond t b a)) le,
    )

-- a key that is equal to the one that is held is the greater of the two
pub stands_equal : (held key : Option KeyValue) → key_order key held ≡ Equal → (held ≡ key) × (greater held key ≡ key)
stands_equal None None e = (refl, refl)
stands_equal (Some a) None e = absurd (cc)
stands_equal None (Some b) e = absurd (cc)
stands_equal (Some a) (Some b) e =
    let tied : slice_cmp nat_cmp (key_rank a) (key_rank b) ≡ Equal =
    nat_list_cmp_total.antisymm (key_rank a) (key_rank b) ∙ ap ordering_reverse e in
    let same : a ≡ b = key_le-antisym a b (ap is_le tied) (ap is_le e) in
    (ap Some same, ap (λ t. Some (cond t b a)) (ap is_le tied))

-- a key below the one that is held leaves that one
pub stands_below : (held key : Option KeyValue) → key_order key held ≡ Less →
    IsKeyBelow key held × (greater held key ≡ held)
stands_below None None e = absurd (cc)
stands_below (Some a) None e = (tt, refl)
stands_below None (Some b) e = absurd (cc)
stands_below (Some a) (Some b) e =
    let above : slice_cmp nat_cmp (key_rank a) (key_rank b) ≡ Greater =
    nat_list_cmp_total.antisymm (key_rank a) (key_rank b) ∙ ap ordering_reverse e in (
      (
        ap is_le e,
        λ s. let tied : slice_cmp nat_cmp (key_rank b) (key_rank b) ≡ Equal =
            tied_itself nat_list_cmp_total (key_rank b) in
            let less : slice_cmp nat_cmp (key_rank b) (key_rank b) ≡ Less =
            subst (λ k. slice_cmp nat_cmp (key_rank b) (key_rank k) ≡ Less) (sym s) e in
            cc,
      ),
      ap (λ t. Some (cond t b a)) (ap is_le above),
    )

-- ---- the union

module _ (v w : State) (name : List ℕ) where
  abbrev k : Option KeyValue
  k = v.key name

  abbrev l : Option KeyValue
  l = w.key name

  -- what the union has of a cell, where the second key stands so
  abbrev Left : Ordering → Type 0
  Left o = IsKeyBelow k (greater k l) ⊎ ((k ≡ greater k l) ×
      ((term node : ℕ) → v.execs name term node ≤ number_both o (v.execs name term node) (w.execs name term node)) ×
      ((term from to : ℕ) → v.shifts name term from to ≤ number_both o (v.shifts name term from to)
      (w.shifts name term from to)))

  above_left : IsBelowAt v (union_of v w) name
  unfolding union_of
  above_left = record { hits = λ node. omega arith; cells = by_order (key_order l k) refl }
    where
      by_order : (o : Ordering) → key_order l k ≡ o → Left o
      by_order Less e = inr (sym (stands_below k l e).1, λ term node. omega arith, λ term from to. omega arith)
      by_order Equal e = inr (
        (stands_equal k l e).0 ∙ sym (stands_equal k l e).1,
        λ term node. omega arith,
        λ term from to. omega arith,
      )
      by_order Greater e = inl (subst (IsKeyBelow k) (sym (stands_above k l e).1) (stands_above k l e).0)

  abbrev Right : Ordering → Type 0
  Right o = IsKeyBelow l (greater k l) ⊎ ((l ≡ greater k l) ×
      ((term node : ℕ) → w.execs name term node ≤ number_both o (v.execs name term node) (w.execs name term node)) ×
      ((term from to : ℕ) → w.shifts name term from to ≤ number_both o (v.shifts name term from to)
      (w.shifts name term from to)))

  above_right : IsBelowAt w (union_of v w) name
  unfolding union_of
  above_right = record { hits = λ node. omega arith; cells = by_order (key_order l k) refl }
    where
      by_order : (o : Ordering) → key_order l k ≡ o → Right o
      by_order Less e = inl (subst (IsKeyBelow l) (sym (stands_below k l e).1) (stands_below k l e).0)
      by_order Equal e = inr (sym (stands_equal k l e).1, λ term node. omega arith, λ term from to. omega arith)
      by_order Greater e = inr (sym (stands_above k l e).1, λ term node. omega arith, λ term from to. omega arith)

  module _ (u : State) where
    abbrev Cells : State → Type 0
    Cells x = IsKeyBelow (x.key name) (u.key name) ⊎ ((x.key name ≡ u.key name) ×
        ((term node : ℕ) → x.execs name term node ≤ u.execs name term node) ×
        ((term from to : ℕ) → x.shifts name term from to ≤ u.shifts name term from to))

    abbrev Under : Ordering → Type 0
    Under o = IsKeyBelow (greater k l) (u.key name) ⊎ ((greater k l ≡ u.key name) ×
        ((term node : ℕ) → number_both o (v.execs name term node) (w.execs name term node) ≤ u.execs name term node) ×
        ((term from to : ℕ) → number_both o (v.shifts name term from to) (w.shifts name term from to) ≤ u.shifts name
        term from to))

    least_at : IsBelowAt v u name → IsBelowAt w u name → IsBelowAt (union_of v w) u name
    unfolding union_of
    least_at h j = record {
      hits = λ node. let a = h.hits node in let b = j.hits node in omega arith;
      cells = by_order (key_order l k) refl h.cells j.cells;
    }
      where
        by_order : (o : Ordering) → key_order l k ≡ o → Cells v → Cells w → Under o
        by_order Less e (inl a) b = inl (subst (λ x. IsKeyBelow x (u.key name)) (sym (stands_below k l e).1) a)
        by_order Less e (inr a) b = inr ((stands_below k l e).1 ∙ a.0, a.1, a.2)
        by_order Greater e a (inl b) = inl (subst (λ x. IsKeyBelow x (u.key name)) (sym (stands_above k l e).1) b)
        by_order Greater e a (inr b) = inr ((stands_above k l e).1 ∙ b.0, b.1, b.2)
        by_order Equal e a (inl b) = inl (subst (λ x. IsKeyBelow x (u.key name)) (sym (stands_equal k l e).1) b)
        by_order Equal e (inl a) (inr b) = inl (subst (λ x. IsKeyBelow x (u.key name))
            ((stands_equal k l e).0 ∙ sym (stands_equal k l e).1) a)
        by_order Equal e (inr a) (inr b) = inr (
          (stands_equal k l e).1 ∙ b.0,
          λ term node. let p = a.1 term node in let q = b.1 term node in omega arith,
          λ term from to. let p = a.2 term from to in let q = b.2 term from to in omega arith,
        )

pub union_above : (v w : State) → IsBelow v (union_of v w) × IsBelow w (union_of v w)
union_above v w = (λ name. above_left v w name, λ name. above_right v w name)

pub union_under : (v w u : State) → IsBelow v u → IsBelow w u → IsBelow (union_of v w) u
union_under v w u h k = λ name. least_at v w name u (h name) (k name)
