-- What two sets of operations come to together.
use Rattle.std.proofs.Common.{◌≡◌, ℕ, max, Bool, true, false, cond, List, [], ◌∷◌, ◌++◌, ◌⊎◌, inl, inr, refl, sym, ◌∙◌, ap, subst, arith, ⊎_elim, Option, Some, None}
use Rattle.std.proofs.lemmas.Map.Keys.{sorted_head, sorted_tail}
use Rattle.std.specs.List.{AllByRecursion}
use Rattle.std.specs.List.Sorted.{IsStrictlySortedBy}
use Rattle.std.specs.Ordering.{nat_cmp}
use Rattle.std.specs.Cmp.Lexicographic.{slice_cmp}
use Rattle.std.specs.declared.cmp.Ordering.{Ordering}
use Rattle.std.specs.declared.cmp.Ordering.TheVariants.{Less, Equal, Greater}
use Rattle.stamp_register.specs.Keys.{KeyValue, same_key}
use Rattle.operations.specs.Operations.{Operation, Hits, Execs, Shifts, IsIn}
use Rattle.replica_state.specs.States.{State, with_name}
use Rattle.replica_state.specs.Folds.{fold, greater, key_of, at_key, number_at, names_of}
use Rattle.replica_state.specs.Unions.{with_names, key_order, number_both, union_of}
use Rattle.replica_state.proofs.Orders.{same_key-refl, same_key-true}
use Rattle.replica_state.proofs.StateOrders.{stands_above, stands_equal, stands_below}
use Rattle.replica_state.proofs.Sets.{number_at-append}
use Rattle.replica_state.proofs.Names.{IsAscending, with_name-cases, with_name-new, with_name-old, with_name-ascending, same_ascending, names_of-ascending, names_of-holds, holds-names_of, HoldsName}
use Rattle.replica_state.proofs.KnownSets.{exec_kind, shift_kind}
use Rattle.replica_state.proofs.Unions.{under, joined_number, key_of-append, kind-append, in_left, in_right, holds_append}

-- ---- the names of two states

pub with_names-cases : (names ns : List (List ℕ)) (q : List ℕ) → IsIn q (with_names names ns) → IsIn q names ⊎ IsIn q ns
with_names-cases [] ns q h = inr h
with_names-cases (name ∷ names) ns q h = ⊎_elim (λ k. inl (inr k))
    (λ k. ⊎_elim (λ e. inl (inl e)) (λ m. inr m) (with_name-cases name q ns k))
    (with_names-cases names (with_name name ns) q h)

pub with_names-old : (names ns : List (List ℕ)) (q : List ℕ) → IsIn q ns → IsIn q (with_names names ns)
with_names-old [] ns q h = h
with_names-old (name ∷ names) ns q h = with_names-old names (with_name name ns) q (with_name-old name q ns h)

pub with_names-new : (names ns : List (List ℕ)) (q : List ℕ) → IsIn q names → IsIn q (with_names names ns)
with_names-new [] ns q h = absurd h
with_names-new (name ∷ names) ns q (inl e) = with_names-old names (with_name name ns) q
    (subst (λ n. IsIn n (with_name name ns)) (sym e) (with_name-new name ns))
with_names-new (name ∷ names) ns q (inr h) = with_names-new names (with_name name ns) q h

pub with_names-ascending : (names ns : List (List ℕ)) → IsAscending ns → IsAscending (with_names names ns)
with_names-ascending [] ns h = h
with_names-ascending (name ∷ names) ns h = with_names-ascending names (with_name name ns)
    (with_name-ascending name ns h)

each_of : (P : List ℕ → Type 0) (xs : List (List ℕ)) → AllByRecursion P xs → (m : List ℕ) → IsIn m xs → P m
each_of P [] h m k = absurd k
each_of P (x ∷ xs) h m (inl e) = subst P (sym e) h.0
each_of P (x ∷ xs) h m (inr k) = each_of P xs h.1 m k

pub sorted_ascends : (ns : List (List ℕ)) → IsStrictlySortedBy (slice_cmp nat_cmp) ns → IsAscending ns
sorted_ascends [] h = tt
sorted_ascends (n ∷ ns) h = (
  each_of (λ m. slice_cmp nat_cmp n m ≡ Less) ns (sorted_head (slice_cmp nat_cmp) n ns h),
  sorted_ascends ns (sorted_tail (slice_cmp nat_cmp) n ns h),
)

names_of-append : (a b : List Operation) → with_names (names_of b) (names_of a) ≡ names_of (a ++ b)
names_of-append a b = same_ascending (with_names (names_of b) (names_of a)) (names_of (a ++ b))
    (with_names-ascending (names_of b) (names_of a) (names_of-ascending a)) (names_of-ascending (a ++ b))
    (λ m k. ⊎_elim (λ j. named m (in_right m a b j)) (λ j. named m (in_left m a b j))
    (with_names-cases (names_of b) (names_of a) m k))
    (λ m k. ⊎_elim (λ j. with_names-old (names_of b) (names_of a) m j)
    (λ j. with_names-new (names_of b) (names_of a) m j) (holds_append m a b (names_of-holds m (a ++ b) k)))
  where
    named : (m : List ℕ) → HoldsName m (a ++ b) → IsIn m (names_of (a ++ b))
    named m r = subst (λ n. IsIn n (names_of (a ++ b))) r.named (holds-names_of (a ++ b) r.op r.held r.counted)

-- ---- the union of the states of two sets of operations is the state of their union

under-own : (a : KeyValue) (n : ℕ) → under (Some a) (Some a) n ≡ n
under-own a n = ap (λ t. cond t n 0) (same_key-refl a)

under-other : (a b : KeyValue) (n : ℕ) → (b ≡ a → ⊥) → under (Some a) (Some b) n ≡ 0
under-other a b n apart = by_test (same_key b a) refl
  where
    by_test : (t : Bool) → same_key b a ≡ t → cond t n 0 ≡ 0
    by_test true e = absurd (apart (same_key-true b a e))
    by_test false e = refl

-- of a cell of one kind, where no key has nothing
both-joined : (k l : Option KeyValue) (f g : KeyValue → ℕ) →
    number_both (key_order l k) (at_key k f) (at_key l g) ≡ joined_number k l (at_key k f) (at_key l g)
both-joined None None f g = refl
both-joined None (Some b) f g = let own = under-own b (g b) in omega (arith, own)
both-joined (Some a) None f g = let own = under-own a (f a) in omega (arith, own)
both-joined (Some a) (Some b) f g = by_order (key_order (Some b) (Some a)) refl
  where
    with_key : (key : KeyValue) (m n : ℕ) → greater (Some a) (Some b) ≡ Some key → under (Some key) (Some a) (f a) ≡ m →
        under (Some key) (Some b) (g b) ≡ n → max m n ≡ joined_number (Some a) (Some b) (f a) (g b)
    with_key key m n top one other = sym (ap (λ o. max (under o (Some a) (f a)) (under o (Some b) (g b))) top ∙
        (λ i. max (one i) (other i)))

    by_order : (o : Ordering) → key_order (Some b) (Some a) ≡ o →
        number_both o (f a) (g b) ≡ joined_number (Some a) (Some b) (f a) (g b)
    by_order Less e =
        let below = stands_below (Some a) (Some b) e in
        omega arith ∙ with_key a (f a) 0 below.1 (under-own a (f a)) (under-other a b (g b) below.0.1)
    by_order Equal e =
        let tied = stands_equal (Some a) (Some b) e in
        with_key b (f a) (g b) tied.1 (subst (λ o. under o (Some a) (f a) ≡ f a) tied.0 (under-own a (f a)))
        (under-own b (g b))
    by_order Greater e =
        let above = stands_above (Some a) (Some b) e in
        omega arith ∙ with_key b 0 (g b) above.1 (under-other b a (f a) above.0.1) (under-own b (g b))

pub fold-unites : (a b : List Operation) → union_of (fold a) (fold b) ≡ fold (a ++ b)
unfolding fold union_of exec_kind shift_kind
fold-unites a b = λ i. record {
  names = names_of-append a b i;
  key = λ name. sym (key_of-append name a b) i;
  hits = λ name node. sym (number_at-append (Hits name node) a b) i;
  execs = λ name term node. (both-joined (key_of name a) (key_of name b) (λ key. number_at (Execs name key term node) a)
      (λ key. number_at (Execs name key term node) b) ∙ sym (kind-append name (exec_kind name term node) a b)) i;
  shifts = λ name term from to. (both-joined (key_of name a) (key_of name b)
      (λ key. number_at (Shifts name key term from to) a) (λ key. number_at (Shifts name key term from to) b) ∙
      sym (kind-append name (shift_kind name term from to) a b)) i;
}

pub united_folds : (u v w : State) → u ≡ union_of v w → (a b : List Operation) → v ≡ fold a → w ≡ fold b →
    u ≡ fold (a ++ b)
united_folds u v w e a b h k = e ∙ (λ i. union_of (h i) (k i)) ∙ fold-unites a b
