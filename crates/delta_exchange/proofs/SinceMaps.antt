-- Lists made of a map's entries, in the order of its keys: their members, and their order.
use Rattle.std.proofs.Common.{◌≡◌, ℕ, Bool, true, false, cond, List, [], ◌∷◌, map, inl, inr, Some, refl, sym, ap, subst, ◌∙◌}
use Rattle.std.specs.List.{flat_map}
use Rattle.std.specs.List.Sorted.{IsStrictlySortedBy}
use Rattle.std.specs.Map.{lookup, keys_of}
use Rattle.std.specs.BTreeMap.{is_at}
use Rattle.std.specs.Cmp.{IsTotalOrder}
use Rattle.std.specs.Ordering.{nat_cmp, is_eq, ordering_reverse}
use Rattle.std.specs.Cmp.Lexicographic.{slice_cmp}
use Rattle.std.specs.declared.cmp.Ordering.{Ordering}
use Rattle.std.specs.declared.cmp.Ordering.TheVariants.{Less, Equal, Greater}
use Rattle.std.proofs.lemmas.Cmp.{tied_itself}
use Rattle.std.proofs.lemmas.List.{map-append}
use Rattle.std.proofs.lemmas.List.Concat.{flat_map-cons}
use Rattle.std.proofs.lemmas.Map.Keys.{sorted_head, sorted_tail}
use Rattle.std.proofs.lemmas.Map.Entries.{lookup_head, lookup_tail}
use Rattle.std.proofs.lemmas.Map.Lookups.{CmpEqualImpliesEq}
use Rattle.operations.specs.Operations.{IsIn}
use Rattle.replica_state.proofs.Names.{IsAscending}
use Rattle.message_format.proofs.Members.{in_flat, mapped_from, mapped_in, one_of}
use Rattle.delta_exchange.proofs.BelowLemmas.{ascending_append}

-- ---- the value at a key

module _ {K : Type 0} (cmp : K → K → Ordering) (laws : IsTotalOrder cmp) (exact : CmpEqualImpliesEq cmp) where
  same_key : (k q : K) → is_at (cmp k) q ≡ true → k ≡ q
  same_key k q e = exact k q (equal (cmp k q) e)
    where
      equal : (o : Ordering) → is_eq o ≡ true → o ≡ Equal
      equal Less e = absurd cc
      equal Equal e = refl
      equal Greater e = absurd cc

  module _ {X : Type 0} where
    pub found_in : (es : List (K × X)) (k : K) (x : X) → lookup (is_at (cmp k)) es ≡ Some x → IsIn (k, x) es
    found_in [] k x h = absurd cc
    found_in (e ∷ es) k x h = by_test (found_in es k x) (is_at (cmp k) e.0) refl h
      where
        by_test : (lookup (is_at (cmp k)) es ≡ Some x → IsIn (k, x) es) → (b : Bool) → is_at (cmp k) e.0 ≡ b →
            cond b (Some e.1) (lookup (is_at (cmp k)) es) ≡ Some x → IsIn (k, x) (e ∷ es)
        by_test rest true t s =
            let same = same_key k e.0 t in
            let value : x ≡ e.1 = cc in
            inl (λ i. (same i, value i))
        by_test rest false t s = inr (rest s)

    pub value_at : (es : List (K × X)) (k : K) (x : X) → IsStrictlySortedBy cmp (keys_of es) → IsIn (k, x) es →
        lookup (is_at (cmp k)) es ≡ Some x
    value_at [] k x sorted h = absurd h
    value_at (e ∷ es) k x sorted (inl s) =
        let here : k ≡ e.0 = ap (λ (z : K × X). z.0) s in
        let value : x ≡ e.1 = ap (λ (z : K × X). z.1) s in
        let tied : is_at (cmp k) e.0 ≡ true = ap is_eq (subst (λ q. cmp k q ≡ Equal) here (tied_itself laws k)) in
        lookup_head (is_at (cmp k)) e es tied ∙ ap Some (sym value)
    value_at (e ∷ es) k x sorted (inr h) =
        let above : cmp e.0 k ≡ Less = one_of (λ q. cmp e.0 q ≡ Less) (keys_of es)
        (sorted_head cmp e.0 (keys_of es) sorted) k (mapped_in (λ (z : K × X). z.0) es (k, x) h) in
        let apart : is_at (cmp k) e.0 ≡ false = ap is_eq (laws.antisymm k e.0 ∙ ap ordering_reverse above) in
        lookup_tail (is_at (cmp k)) e es apart ∙ value_at es k x (sorted_tail cmp e.0 (keys_of es) sorted) h

-- ---- lists one after the other

-- they ascend where each does, and those of one key are below those of a greater one
module _ {K X C : Type 0} (cmp : K → K → Ordering) (f : K × X → List C) (place : C → List ℕ) where
  pub flat_ascends : ((e : K × X) → IsAscending (map place (f e)))
      → ((e g : K × X) (c d : C) → cmp e.0 g.0 ≡ Less → IsIn c (f e) → IsIn d (f g) →
      slice_cmp nat_cmp (place c) (place d) ≡ Less)
      → (es : List (K × X)) → IsStrictlySortedBy cmp (keys_of es) → IsAscending (map place (flat_map f es))
  flat_ascends each across [] sorted = tt
  flat_ascends each across (e ∷ es) sorted =
      let rest = flat_map f es in
      subst (λ ds. IsAscending (map place ds)) (sym (flat_map-cons f e es))
      (subst IsAscending (sym (map-append place (f e) rest))
      (ascending_append (map place (f e)) (map place rest) (each e)
      (flat_ascends each across es (sorted_tail cmp e.0 (keys_of es) sorted))
      (λ p q a b.
      let x = mapped_from place (f e) p a in
      let y = mapped_from place rest q b in
      let r = in_flat f es y.0 y.1 in
      let less : cmp e.0 r.0.0 ≡ Less = one_of (λ d. cmp e.0 d ≡ Less) (keys_of es)
      (sorted_head cmp e.0 (keys_of es) sorted) r.0.0 (mapped_in (λ (z : K × X). z.0) es r.0 r.1) in
      subst (λ z. slice_cmp nat_cmp z q ≡ Less) (sym x.2) (subst (λ z. slice_cmp nat_cmp (place x.0) z ≡ Less) (sym y.2)
      (across e r.0 x.0 y.0 less x.1 r.2)))))
