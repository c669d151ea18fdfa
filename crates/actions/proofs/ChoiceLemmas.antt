-- Words for the terms that take one, and the first term that triggers.
use Rattle.std.proofs.Common.{◌≡◌, ℕ, zero, suc, ◌+◌, ◌<◌, ◌≤◌, Bool, true, false, cond, List, [], ◌∷◌, length, get_or, take, map, Option, Some, None, MatchOption, option_map, refl, sym, ap, subst, ◌∙◌, arith}
use Rattle.std.specs.List.{slice_get}
use Rattle.std.proofs.lemmas.List.{get_or-map, length-map}
use Rattle.std.proofs.lemmas.List.Sums.{count_by_more_yes, count_by_more_no, sum_by-take-le}
use Rattle.actions.specs.declared.task.Term.{Term}
use Rattle.actions.specs.Value.{TermValue, term_value}
use Rattle.actions.specs.Choice.{takes_word, words_needed, word_at, can_trigger, triggers_by, triggers, first_below, choice, IsFirstTriggered}

-- ---- the terms that a loop goes over

term_value_at : (terms : List Term) (i : ℕ) (t : Term) (d : TermValue) → i < length terms → t ≡ get_or terms i t
    → get_or (map term_value terms) i d ≡ term_value t
term_value_at terms i t d lt at = get_or-map term_value terms i t d lt ∙ ap term_value (sym at)

within : (terms : List Term) (i : ℕ) → i < length terms → i < length (map term_value terms)
within terms i lt = omega (arith, length-map terms term_value, lt)

pub used_more : (terms : List Term) (i : ℕ) (t : Term) → i < length terms → t ≡ get_or terms i t
    → takes_word (term_value t) ≡ true
    → words_needed (take (i + 1) (map term_value terms)) ≡ words_needed (take i (map term_value terms)) + 1
used_more terms i t lt at h =
    count_by_more_yes takes_word (map term_value terms) i (term_value t) (within terms i lt)
    (ap takes_word (term_value_at terms i t (term_value t) lt at) ∙ h)

pub used_same : (terms : List Term) (i : ℕ) (t : Term) → i < length terms → t ≡ get_or terms i t
    → takes_word (term_value t) ≡ false
    → words_needed (take (i + 1) (map term_value terms)) ≡ words_needed (take i (map term_value terms))
used_same terms i t lt at h =
    count_by_more_no takes_word (map term_value terms) i (term_value t) (within terms i lt)
    (ap takes_word (term_value_at terms i t (term_value t) lt at) ∙ h)

front_needs : (ts : List TermValue) (i : ℕ) → words_needed (take i ts) ≤ words_needed ts
front_needs ts i = sum_by-take-le (λ t. cond (takes_word t) 1 0) ts i

pub word_left : (terms : List Term) (i : ℕ) (t : Term) (next len : ℕ) → i < length terms → t ≡ get_or terms i t
    → next ≡ words_needed (take i (map term_value terms)) → len ≡ words_needed (map term_value terms)
    → takes_word (term_value t) ≡ true → next < len
word_left terms i t next len lt at used enough h =
    omega (arith, used, enough, used_more terms i t lt at h, front_needs (map term_value terms) (i + 1))

slice_get_within : {A : Type 0} (xs : List A) (i : ℕ) (d : A) → i < length xs → slice_get xs i ≡ Some (get_or xs i d)
slice_get_within [] i d lt = absurd (omega arith)
slice_get_within (x ∷ xs) zero d lt = refl
slice_get_within (x ∷ xs) (suc i) d lt = slice_get_within xs i d (omega arith)

-- what a loop has found of the term at i is what `triggers` says
pub triggers_at : (terms : List Term) (words : List ℕ) (may : ℕ → Bool) (i : ℕ) (t : Term) (next : ℕ) (found : Bool)
    → i < length terms → t ≡ get_or terms i t → next ≡ words_needed (take i (map term_value terms))
    → found ≡ can_trigger (term_value t) (get_or words next 0) (may i) →
    triggers (map term_value terms) words may i ≡ found
triggers_at terms words may i t next found lt at used h =
    ap (λ (o : Option TermValue). triggers_by o (word_at (map term_value terms) words i) (may i))
    (slice_get_within (map term_value terms) i (term_value t) (within terms i lt) ∙ ap Some
    (term_value_at terms i t (term_value t) lt at))
    ∙ ap (λ (k : ℕ). can_trigger (term_value t) (get_or words k 0) (may i)) (sym used) ∙ sym h

-- ---- the choice is the first term that triggers

abbrev IsFirst : ℕ → (ℕ → Bool) → Option ℕ → Type 0
IsFirst limit test found = MatchOption found
    ((j : ℕ) → j < limit → test j ≡ false)
    (λ k. (k < limit) × (test k ≡ true) × ((j : ℕ) → j < k → test j ≡ false))

-- a test that fails at 0 has its first number one above that of the test after 0
first_is : (limit : ℕ) (test : ℕ → Bool) (found : Option ℕ) → IsFirst limit test found → found ≡ first_below limit test
first_is zero test None h = refl
first_is zero test (Some k) h = absurd (omega (arith, h.0))
first_is (suc limit) test None h =
    rw (h 0 (omega arith)) (ap (λ (o : Option ℕ). option_map suc o)
    (first_is limit (λ k. test (suc k)) None (λ j low. h (suc j) (omega arith))))
first_is (suc limit) test (Some zero) h = rw h.1 refl
first_is (suc limit) test (Some (suc k)) h =
    rw (h.2 0 (omega arith)) (ap (λ (o : Option ℕ). option_map suc o)
    (first_is limit (λ j. test (suc j)) (Some k) (omega (arith, h.0), h.1, λ j low. h.2 (suc j) (omega arith))))

first_after : (limit : ℕ) (test : ℕ → Bool) (found : Option ℕ) → test 0 ≡ false
    → IsFirst limit (λ k. test (suc k)) found → IsFirst (suc limit) test (option_map suc found)
first_after limit test None e h = first_none where
  first_none : (j : ℕ) → j < suc limit → test j ≡ false
  first_none zero low = e
  first_none (suc j) low = h j (omega arith)
first_after limit test (Some k) e h = (omega (arith, h.0), h.1, before) where
  before : (j : ℕ) → j < suc k → test j ≡ false
  before zero low = e
  before (suc j) low = h.2 j (omega arith)

first_below_is : (limit : ℕ) (test : ℕ → Bool) → IsFirst limit test (first_below limit test)
first_below_is zero test = λ j low. absurd (omega arith)
first_below_is (suc limit) test =
    let starts : (b : Bool) → test 0 ≡ b → IsFirst (suc limit) test
    (cond b (Some 0) (option_map suc (first_below limit (λ k. test (suc k))))) =
    λ b. elim b as (λ b. test 0 ≡ b → IsFirst (suc limit) test
    (cond b (Some 0) (option_map suc (first_below limit (λ k. test (suc k)))))) [
      | true ↦ λ e. (omega arith, e, λ j low. absurd (omega arith))
      | false ↦ λ e. first_after limit test (first_below limit (λ k. test (suc k))) e
          (first_below_is limit (λ k. test (suc k)))
    ] in
    starts (test 0) refl

pub choice_from_first : (ts : List TermValue) (words : List ℕ) (may : ℕ → Bool) (chosen : Option ℕ)
    → IsFirstTriggered ts words may chosen → chosen ≡ choice ts words may
unfolding choice
choice_from_first ts words may chosen h = first_is (length ts) (triggers ts words may) chosen h

pub first_from_choice : (ts : List TermValue) (words : List ℕ) (may : ℕ → Bool) (chosen : Option ℕ)
    → chosen ≡ choice ts words may → IsFirstTriggered ts words may chosen
unfolding choice
first_from_choice ts words may chosen e =
    subst (IsFirstTriggered ts words may) (sym e) (first_below_is (length ts) (triggers ts words may))
