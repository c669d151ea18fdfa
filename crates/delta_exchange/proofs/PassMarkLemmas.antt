-- The marks of a name, by those that passes gave and those of all cells, after one of its cells was written.
use Rattle.std.proofs.Common.{◌≡◌, ◌≢◌, ℕ, Bool, true, false, cond, List, ◌==◌, ◌&&◌, IsTrue, Option, Some, None, option_map, is_some, refl, sym, ◌∙◌, ap, subst, inl, inr, ◌⊎◌, ◌<◌, ◌≤◌, length, arith}
use Rattle.std.specs.Prelude.{slice_get, nat_lt}
use Rattle.std.specs.BTreeMap.{is_at}
use Rattle.std.specs.Option.{unwrap_or}
use Rattle.std.specs.List.{filter}
use Rattle.std.specs.Map.{lookup}
use Rattle.std.proofs.lemmas.Bool.{true≢false, cases_lt, eqb-true}
use Rattle.std.proofs.lemmas.Bool.Decides.{nat_tests}
use Rattle.std.proofs.lemmas.Option.{slice_get_past}
use Rattle.std.proofs.lemmas.Map.Entries.{lookup-filter-keys}
use Rattle.std.proofs.lemmas.Map.Text.{is_eq-slice_cmp}
use Rattle.operations.specs.declared.counted.Counted.{Counted}
use Rattle.operations.specs.declared.counted.Counted.TheVariants.{Hits, Execs, Shifts}
use Rattle.operations.specs.Counts.{counted_cmp, place_of_counted, same_counted, is_hits}
use Rattle.operations.proofs.Counts.{same_counted-refl, same_counted-true}
use Rattle.replica_state.proofs.Orders.{bytes_eq-true, bytes_eq-refl}
use Rattle.delta_exchange.specs.declared.pass_marks.PassMarks.{PassMarks}
use Rattle.delta_exchange.specs.PassMarks.{is_node, pass_mark, has_place, last_mark, AreAmong}
use Rattle.delta_exchange.proofs.LaterCells.{by_place}

-- what stands among these cells
abbrev pub found : List (Counted × ℕ) → Counted → Option ℕ
found es c = lookup (is_at (counted_cmp c)) es

-- the mark of a cell, by that of a pass and its other one, if it has one
abbrev pub mark_by : ℕ → Option ℕ → ℕ
mark_by pass other = unwrap_or (option_map (last_mark pass) other) 0

-- ---- one cell is at the place of another where they are the same

at_true : (c d : Counted) → is_at (counted_cmp c) d ≡ true → c ≡ d
at_true c d e = by_place c d (bytes_eq-true (place_of_counted c) (place_of_counted d)
    (sym (is_eq-slice_cmp (place_of_counted c) (place_of_counted d)) ∙ e))

at_itself : (c : Counted) → is_at (counted_cmp c) c ≡ true
at_itself c = is_eq-slice_cmp (place_of_counted c) (place_of_counted c) ∙ bytes_eq-refl (place_of_counted c)

at_same : (c d : Counted) → is_at (counted_cmp c) d ≡ same_counted c d
at_same c d = by_test (is_at (counted_cmp c) d) (same_counted c d) refl refl
  where
    by_test : (a b : Bool) → is_at (counted_cmp c) d ≡ a → same_counted c d ≡ b → a ≡ b
    by_test true true e f = refl
    by_test false false e f = refl
    by_test true false e f = absurd (true≢false (sym (subst (λ x. same_counted c x ≡ true) (at_true c d e)
        (same_counted-refl c)) ∙ f))
    by_test false true e f = absurd (true≢false (sym (subst (λ x. is_at (counted_cmp c) x ≡ true)
        (same_counted-true c d f) (at_itself c)) ∙ e))

-- ---- the later mark

last_same : (n : ℕ) → last_mark n n ≡ n
last_same n = by_test (n == 0)
  where
    by_test : (b : Bool) → cond b n n ≡ n
    by_test true = refl
    by_test false = refl

last_new : (n m : ℕ) → n ≢ 0 → last_mark n m ≡ n
last_new n m some = by_test (n == 0) refl
  where
    by_test : (b : Bool) → (n == 0) ≡ b → cond b m n ≡ n
    by_test true e = absurd (some (eqb-true n 0 e))
    by_test false e = refl

-- what has a mark has a place for it
placed : (p : PassMarks) (c : Counted) → length p.execs ≡ 16 → pass_mark p c ≢ 0 → has_place p c ≡ true
placed p (Hits node) few some = by_test (is_node p.node node) some
  where
    by_test : (b : Bool) → cond b p.hits 0 ≢ 0 → b ≡ true
    by_test true k = refl
    by_test false k = absurd (k refl)
placed p (Execs term node) few some = by_test (is_node p.node node) (cases_lt term 16) some
  where
    mark : ℕ
    mark = unwrap_or (slice_get p.execs term) 0

    by_test : (b : Bool) → (term < 16) ⊎ (16 ≤ term) → cond b mark 0 ≢ 0 → (b && nat_lt term 16) ≡ true
    by_test true (inl low) k = grind (arith, nat_tests)
    by_test true (inr high) k = absurd (k (ap (λ (o : Option ℕ). unwrap_or o 0)
        (slice_get_past p.execs term (omega (arith, few, high)))))
    by_test false o k = absurd (k refl)
placed p (Shifts term from to) few some = absurd (some refl)

-- ---- cells of which one was written

module _ (es ns : List (Counted × ℕ)) (c : Counted) (number : ℕ)
    (at : (d : Counted) → found ns d ≡ cond (is_at (counted_cmp c) d) (Some number) (found es d)) where
  pub still_found : (d : Counted) → IsTrue (is_some (found es d)) → IsTrue (is_some (found ns d))
  still_found d h = subst (λ (o : Option ℕ). IsTrue (is_some o)) (sym (at d)) (by_test (is_at (counted_cmp c) d))
    where
      by_test : (b : Bool) → IsTrue (is_some (cond b (Some number) (found es d)))
      by_test true = refl
      by_test false = h

-- ---- a mark more

module _ (es : List (Counted × ℕ)) (p q : PassMarks) (c : Counted) (version : ℕ) (some : version ≢ 0)
    (room : IsTrue (is_some (found es c))) (few : length p.execs ≡ 16)
    (passes : (d : Counted) → pass_mark q d ≡ cond (has_place p c && same_counted c d) version (pass_mark p d)) where
  -- of a cell that a pass had marked
  pub marked_again : pass_mark p c ≢ 0 → (d : Counted) →
      mark_by (pass_mark q d) (found es d) ≡ cond (same_counted c d) version (mark_by (pass_mark p d) (found es d))
  marked_again had d =
      ap (λ n. mark_by n (found es d)) (passes d ∙
      ap (λ t. cond (t && same_counted c d) version (pass_mark p d)) (placed p c few had)) ∙
      by_test (same_counted c d) refl
    where
      by_room : (o : Option ℕ) → IsTrue (is_some o) → mark_by version o ≡ version
      by_room (Some m) h = last_new version m some
      by_room None h = absurd (true≢false (sym h))

      by_test : (b : Bool) → same_counted c d ≡ b → mark_by (cond (true && b) version (pass_mark p d)) (found es d) ≡
          cond b version (mark_by (pass_mark p d) (found es d))
      by_test true e = by_room (found es d) (subst (λ x. IsTrue (is_some (found es x))) (same_counted-true c d e) room)
      by_test false e = refl

  -- of one that none had
  pub marked_anew : (ns : List (Counted × ℕ)) → pass_mark p c ≡ 0 →
      ((d : Counted) → found ns d ≡ cond (is_at (counted_cmp c) d) (Some version) (found es d)) → (d : Counted) →
      mark_by (pass_mark q d) (found ns d) ≡ cond (same_counted c d) version (mark_by (pass_mark p d) (found es d))
  marked_anew ns zero at d =
      (λ i. mark_by (passes d i) ((at d ∙ ap (λ b. cond b (Some version) (found es d)) (at_same c d)) i)) ∙
      by_test (has_place p c) (same_counted c d) refl
    where
      by_test : (t b : Bool) → same_counted c d ≡ b →
          mark_by (cond (t && b) version (pass_mark p d)) (cond b (Some version) (found es d)) ≡
          cond b version (mark_by (pass_mark p d) (found es d))
      by_test true true e = last_same version
      by_test false true e = ap (λ n. mark_by n (Some version))
          (subst (λ x. pass_mark p x ≡ 0) (same_counted-true c d e) zero)
      by_test true false e = refl
      by_test false false e = refl

  pub still_among : (ns : List (Counted × ℕ)) →
      ((d : Counted) → IsTrue (is_some (found es d)) → IsTrue (is_some (found ns d))) → AreAmong es p → AreAmong ns q
  still_among ns kept among d h = kept d (by_test (has_place p c) (same_counted c d) refl (λ e. h (passes d ∙ e)))
    where
      by_test : (t b : Bool) → same_counted c d ≡ b → cond (t && b) version (pass_mark p d) ≢ 0 →
          IsTrue (is_some (found es d))
      by_test true true e k = subst (λ x. IsTrue (is_some (found es x))) (same_counted-true c d e) room
      by_test true false e k = among d k
      by_test false b e k = among d k

-- ---- the marks of hits alone

module _ (es ns : List (Counted × ℕ)) (p q : PassMarks) (hits : ns ≡ filter (λ (e : Counted × ℕ). is_hits e.0) es)
    (passes : (d : Counted) → pass_mark q d ≡ cond (is_hits d) (pass_mark p d) 0) where
  found_hits : (c : Counted) → found ns c ≡ cond (is_hits c) (found es c) None
  found_hits c = ap (λ (xs : List (Counted × ℕ)). found xs c) hits ∙ lookup-filter-keys (is_at (counted_cmp c)) is_hits
      (is_hits c) (λ d e. ap is_hits (sym (at_true c d e))) es

  pub hits_only : (c : Counted) →
      mark_by (pass_mark q c) (found ns c) ≡ cond (is_hits c) (mark_by (pass_mark p c) (found es c)) 0
  hits_only c = (λ i. mark_by (passes c i) (found_hits c i)) ∙ by_test (is_hits c)
    where
      by_test : (b : Bool) → mark_by (cond b (pass_mark p c) 0) (cond b (found es c) None) ≡
          cond b (mark_by (pass_mark p c) (found es c)) 0
      by_test true = refl
      by_test false = refl

  pub hits_among : AreAmong es p → AreAmong ns q
  hits_among among c h = subst (λ (o : Option ℕ). IsTrue (is_some o)) (sym (found_hits c))
      (by_test (is_hits c) (λ e. h (passes c ∙ e)))
    where
      by_test : (b : Bool) → cond b (pass_mark p c) 0 ≢ 0 → IsTrue (is_some (cond b (found es c) None))
      by_test true k = among c k
      by_test false k = absurd (k refl)
