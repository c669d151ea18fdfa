-- What a point holds after it took in another one, and which of two holds more.
use Rattle.std.proofs.Common.{◌≡◌, ℕ, ◌+◌, ◌<◌, ◌≤◌, max, nat_le, Bool, true, false, cond, not, ◌||◌, IsTrue, List, [], ◌∷◌, Option, option_map, length, zero, suc, get_or, drop, add-one, ◌↔◌, inl, inr, refl, sym, ◌∙◌, ap, subst, arith, ⊎_elim}
use Rattle.std.proofs.lemmas.Bool.{true≢false, and_parts, and_from, leb-true, le-leb}
use Rattle.std.specs.List.{list_all}
use Rattle.std.specs.declared.cmp.Ordering.{Ordering}
use Rattle.std.specs.declared.cmp.Ordering.TheVariants.{Less, Equal, Greater}
use Rattle.stamp_register.specs.Keys.{KeyValue, key_value}
use Rattle.stamp_register.specs.declared.key.Key.{Key}
use Rattle.operations.specs.declared.counted.Counted.{Counted}
use Rattle.operations.specs.declared.counted.Counted.TheVariants.{Hits, Execs, Shifts}
use Rattle.operations.specs.declared.counted.Count.{Count}
use Rattle.op_set.specs.declared.point.Point.{Point}
use Rattle.replica_state.specs.Folds.{greater}
use Rattle.replica_state.specs.Points.{Held, only_hits}
use Rattle.operations.specs.Counts.{same_counted, is_hits}
use Rattle.op_set.specs.Counts.{held_of, number_of}
use Rattle.replica_state.specs.StateOrder.{IsKeyBelow, key_below-irrefl, key_below-trans}
use Rattle.replica_state.specs.Unions.{key_order, number_both, numbers_both, both_held, if_counts, IsHeldBelow}
use Rattle.operations.proofs.Counts.{same_counted-true, same_counted-refl}
use Rattle.replica_state.proofs.StateOrders.{stands_above, stands_equal, stands_below}

-- ---- counts that are learned one after the other

number_of-drop : (cs : List Count) (d : Counted) (z : Count) (i : ℕ) → i < length cs →
    number_of (drop i cs) d ≡ max (cond (same_counted (get_or cs i z).counted d) (get_or cs i z).number 0)
    (number_of (drop (suc i) cs) d)
number_of-drop [] d z i small = absurd (omega arith)
number_of-drop (c ∷ cs) d z zero small = refl
number_of-drop (c ∷ cs) d z (suc i) small = number_of-drop cs d z i (omega arith)

module _ (same : Bool) (x : Count) (d : Counted) (n r : ℕ) where
  -- what counts of x counts of what is counted like it
  alike : same_counted x.counted d ≡ true → (b : Bool) → (same || is_hits x.counted) ≡ b → (same || is_hits d) ≡ b
  alike t b h = ap (λ (c : Counted). same || is_hits c) (sym (same_counted-true x.counted d t)) ∙ h

  none_more : (b : Bool) → max n (cond b r 0) ≡ max n (cond b (max 0 r) 0)
  none_more true = omega arith
  none_more false = refl

  learned_count : (same || is_hits x.counted) ≡ true → max (cond (same_counted x.counted d) (max x.number n) n)
      (if_counts same d r) ≡ max n (if_counts same d (max (cond (same_counted x.counted d) x.number 0) r))
  learned_count h = by_test (same_counted x.counted d) refl
    where
      by_test : (t : Bool) → same_counted x.counted d ≡ t → max (cond t (max x.number n) n)
          (cond (same || is_hits d) r 0) ≡ max n (cond (same || is_hits d) (max (cond t x.number 0) r) 0)
      by_test true e = subst (λ (b : Bool). max (max x.number n) (cond b r 0) ≡ max n (cond b (max x.number r) 0))
          (sym (alike e true h)) (omega arith)
      by_test false e = none_more (same || is_hits d)

  skipped_count : (same || is_hits x.counted) ≡ false → max n (if_counts same d r) ≡ max n
      (if_counts same d (max (cond (same_counted x.counted d) x.number 0) r))
  skipped_count h = by_test (same_counted x.counted d) refl
    where
      by_test : (t : Bool) → same_counted x.counted d ≡ t → max n (cond (same || is_hits d) r 0) ≡ max n
          (cond (same || is_hits d) (max (cond t x.number 0) r) 0)
      by_test true e = subst (λ (b : Bool). max n (cond b r 0) ≡ max n (cond b (max x.number r) 0))
          (sym (alike e false h)) refl
      by_test false e = none_more (same || is_hits d)

-- one turn of the loop that learns them
module _ (cs : List Count) (same : Bool) (z : Count) (i : ℕ) (small : i < length cs) (d : Counted) where
  abbrev here : Count
  here = get_or cs i z

  pub count_learned : (n m : ℕ) → (same || is_hits here.counted) ≡ true →
      m ≡ cond (same_counted here.counted d) (max here.number n) n →
      max m (if_counts same d (number_of (drop (i + 1) cs) d)) ≡ max n (if_counts same d (number_of (drop i cs) d))
  count_learned n m h e = rw add-one (ap (λ k. max k (if_counts same d (number_of (drop (suc i) cs) d))) e ∙
      learned_count same here d n (number_of (drop (suc i) cs) d) h ∙
      ap (λ k. max n (if_counts same d k)) (sym (number_of-drop cs d z i small)))

  pub count_skipped : (n : ℕ) → (same || is_hits here.counted) ≡ false →
      max n (if_counts same d (number_of (drop (i + 1) cs) d)) ≡ max n (if_counts same d (number_of (drop i cs) d))
  count_skipped n h = rw add-one (skipped_count same here d n (number_of (drop (suc i) cs) d) h ∙
      ap (λ k. max n (if_counts same d k)) (sym (number_of-drop cs d z i small)))

-- ---- a point that took in another one

module _ (p w other : Point) (cs : List Count) (read : cs ≡ other.counts.items) where
  abbrev held_key : Option KeyValue
  held_key = option_map key_value p.key

  abbrev other_key : Option KeyValue
  other_key = option_map key_value other.key

  pub took_hits : key_order other_key held_key ≡ Less → w.key ≡ p.key →
      ((d : Counted) → number_of w.counts.items d ≡ max (number_of p.counts.items d)
      (if_counts false d (number_of cs d))) → held_of w ≡ both_held (held_of p) (held_of other)
  unfolding held_of both_held
  took_hits e k h = λ i. record { key = keys i; number = λ d. numbers d i }
    where
      told : (d : Counted) → number_of w.counts.items d ≡ max (number_of p.counts.items d)
          (if_counts false d (number_of other.counts.items d))
      told d = h d ∙ ap (λ xs. max (number_of p.counts.items d) (if_counts false d (number_of xs d))) read

      keys : option_map key_value w.key ≡ greater held_key other_key
      keys = ap (λ (o : Option Key). option_map key_value o) k ∙ sym (stands_below held_key other_key e).1

      numbers : (d : Counted) → number_of w.counts.items d ≡ numbers_both (key_order other_key held_key)
          (number_of p.counts.items) (number_of other.counts.items) d
      numbers (Hits j) = told (Hits j)
      numbers (Execs t j) = told (Execs t j) ∙ omega arith ∙
          ap (λ o. number_both o (number_of p.counts.items (Execs t j)) (number_of other.counts.items (Execs t j)))
          (sym e)
      numbers (Shifts t j l) = told (Shifts t j l) ∙ omega arith ∙
          ap (λ o. number_both o (number_of p.counts.items (Shifts t j l))
          (number_of other.counts.items (Shifts t j l))) (sym e)

  pub took_all : key_order other_key held_key ≡ Equal → w.key ≡ p.key →
      ((d : Counted) → number_of w.counts.items d ≡ max (number_of p.counts.items d)
      (if_counts true d (number_of cs d))) → held_of w ≡ both_held (held_of p) (held_of other)
  unfolding held_of both_held
  took_all e k h = λ i. record { key = keys i; number = λ d. numbers d i }
    where
      told : (d : Counted) → number_of w.counts.items d ≡ max (number_of p.counts.items d)
          (if_counts true d (number_of other.counts.items d))
      told d = h d ∙ ap (λ xs. max (number_of p.counts.items d) (if_counts true d (number_of xs d))) read

      keys : option_map key_value w.key ≡ greater held_key other_key
      keys = ap (λ (o : Option Key). option_map key_value o) k ∙ (stands_equal held_key other_key e).0 ∙
          sym (stands_equal held_key other_key e).1

      numbers : (d : Counted) → number_of w.counts.items d ≡ numbers_both (key_order other_key held_key)
          (number_of p.counts.items) (number_of other.counts.items) d
      numbers (Hits j) = told (Hits j)
      numbers (Execs t j) = told (Execs t j) ∙ ap (λ o. number_both o (number_of p.counts.items (Execs t j))
          (number_of other.counts.items (Execs t j))) (sym e)
      numbers (Shifts t j l) = told (Shifts t j l) ∙ ap (λ o. number_both o (number_of p.counts.items (Shifts t j l))
          (number_of other.counts.items (Shifts t j l))) (sym e)

  pub took_key : key_order other_key held_key ≡ Greater → option_map key_value w.key ≡ other_key →
      ((d : Counted) → number_of w.counts.items d ≡ max (only_hits (number_of p.counts.items) d)
      (if_counts true d (number_of cs d))) → held_of w ≡ both_held (held_of p) (held_of other)
  unfolding held_of both_held
  took_key e k h = λ i. record { key = keys i; number = λ d. numbers d i }
    where
      told : (d : Counted) → number_of w.counts.items d ≡ max (only_hits (number_of p.counts.items) d)
          (if_counts true d (number_of other.counts.items d))
      told d = h d ∙ ap (λ xs. max (only_hits (number_of p.counts.items) d) (if_counts true d (number_of xs d))) read

      keys : option_map key_value w.key ≡ greater held_key other_key
      keys = k ∙ sym (stands_above held_key other_key e).1

      numbers : (d : Counted) → number_of w.counts.items d ≡ numbers_both (key_order other_key held_key)
          (number_of p.counts.items) (number_of other.counts.items) d
      numbers (Hits j) = told (Hits j)
      numbers (Execs t j) = told (Execs t j) ∙ omega arith ∙
          ap (λ o. number_both o (number_of p.counts.items (Execs t j)) (number_of other.counts.items (Execs t j)))
          (sym e)
      numbers (Shifts t j l) = told (Shifts t j l) ∙ omega arith ∙
          ap (λ o. number_both o (number_of p.counts.items (Shifts t j l))
          (number_of other.counts.items (Shifts t j l))) (sym e)

-- ---- which of two holds more

abbrev pub is_counted_below : Bool → List Count → Count → Bool
is_counted_below same ds c = not (same || is_hits c.counted) || nat_le c.number (number_of ds c.counted)

module _ (same : Bool) (ds : List Count) where
  numbers_below : (cs : List Count) → list_all (is_counted_below same ds) cs ≡ true → (d : Counted) →
      (same || is_hits d) ≡ true → number_of cs d ≤ number_of ds d
  numbers_below [] h d k = omega arith
  numbers_below (c ∷ cs) h d k =
      let parts = and_parts (is_counted_below same ds c) (list_all (is_counted_below same ds) cs) h in
      let rest : number_of cs d ≤ number_of ds d = numbers_below cs parts.1 d k in
      let first : cond (same_counted c.counted d) c.number 0 ≤ number_of ds d =
      by_test (same_counted c.counted d) refl parts.0 in
      omega arith
    where
      by_count : (b : Bool) → (same || is_hits c.counted) ≡ b → b ≡ true →
          (not b || nat_le c.number (number_of ds c.counted)) ≡ true → c.number ≤ number_of ds c.counted
      by_count true e t below = leb-true _ _ below
      by_count false e t below = absurd (true≢false (sym t))

      by_test : (t : Bool) → same_counted c.counted d ≡ t → is_counted_below same ds c ≡ true →
          cond t c.number 0 ≤ number_of ds d
      by_test true e below =
          let like : c.counted ≡ d = same_counted-true c.counted d e in
          let counts : (same || is_hits c.counted) ≡ true = ap (λ (x : Counted). same || is_hits x) like ∙ k in
          subst (λ (x : Counted). c.number ≤ number_of ds x) like
          (by_count (same || is_hits c.counted) refl counts below)
      by_test false e below = omega arith

  below_numbers : (cs : List Count) → ((d : Counted) → (same || is_hits d) ≡ true → number_of cs d ≤ number_of ds d) →
      list_all (is_counted_below same ds) cs ≡ true
  below_numbers [] h = refl
  below_numbers (c ∷ cs) h = and_from _ _ (by_count (same || is_hits c.counted) refl)
      (below_numbers cs (λ d k. let whole = h d k in omega arith))
    where
      own : cond (same_counted c.counted c.counted) c.number 0 ≡ c.number
      own = ap (λ t. cond t c.number 0) (same_counted-refl c.counted)

      by_count : (b : Bool) → (same || is_hits c.counted) ≡ b →
          (not b || nat_le c.number (number_of ds c.counted)) ≡ true
      by_count true e = le-leb _ _ (let whole = h c.counted e in let first = own in omega arith)
      by_count false e = refl

-- the answer, by how the keys stand
abbrev pub is_below_by : Ordering → List Count → List Count → Bool
is_below_by Less cs ds = list_all (is_counted_below false ds) cs
is_below_by Equal cs ds = list_all (is_counted_below true ds) cs
is_below_by Greater cs ds = false

module _ (k l : Option KeyValue) (cs ds : List Count) where
  abbrev One : Held
  One = record { key = k; number = number_of cs }

  abbrev Another : Held
  Another = record { key = l; number = number_of ds }

  held_cases : (o : Ordering) → key_order k l ≡ o → IsTrue (is_below_by o cs ds) ↔ IsHeldBelow One Another
  held_cases Less e = (
    λ h. record { hits = λ node. numbers_below false ds cs h (Hits node) refl; cells = inl (stands_below l k e).0 },
    λ h. below_numbers false ds cs (hits_alone h.hits),
  )
    where
      hits_alone : ((node : ℕ) → number_of cs (Hits node) ≤ number_of ds (Hits node)) → (d : Counted) →
          is_hits d ≡ true → number_of cs d ≤ number_of ds d
      hits_alone h (Hits node) t = h node
      hits_alone h (Execs term node) t = absurd (true≢false (sym t))
      hits_alone h (Shifts term from to) t = absurd (true≢false (sym t))
  held_cases Equal e = (
    λ h. record {
      hits = λ node. numbers_below true ds cs h (Hits node) refl;
      cells = inr (
        sym (stands_equal l k e).0,
        λ term node. numbers_below true ds cs h (Execs term node) refl,
        λ term from to. numbers_below true ds cs h (Shifts term from to) refl,
      );
    },
    λ h. below_numbers true ds cs (λ d t. each h d),
  )
    where
      same : k ≡ l
      same = sym (stands_equal l k e).0

      each : IsHeldBelow One Another → (d : Counted) → number_of cs d ≤ number_of ds d
      each h (Hits node) = h.hits node
      each h (Execs term node) = ⊎_elim (λ b. absurd (key_below-irrefl l (subst (λ x. IsKeyBelow x l) same b)))
          (λ b. b.1 term node) h.cells
      each h (Shifts term from to) = ⊎_elim (λ b. absurd (key_below-irrefl l (subst (λ x. IsKeyBelow x l) same b)))
          (λ b. b.2 term from to) h.cells
  held_cases Greater e = (
    λ h. absurd (true≢false (sym h)),
    λ h. absurd (⊎_elim (λ b. key_below-irrefl k (key_below-trans k l k b (stands_above l k e).0))
        (λ b. key_below-irrefl l (subst (IsKeyBelow l) b.0 (stands_above l k e).0)) h.cells),
  )

  pub below_held : (o : Ordering) (r : Bool) (xs ys : List Count) → key_order k l ≡ o → xs ≡ cs → ys ≡ ds →
      r ≡ is_below_by o xs ys → IsTrue r ↔ IsHeldBelow One Another
  below_held o r xs ys e read read_other f = subst (λ (b : Bool). IsTrue b ↔ IsHeldBelow One Another)
      (sym (f ∙ (λ i. is_below_by o (read i) (read_other i)))) (held_cases o e)
