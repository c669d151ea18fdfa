-- Whether a counted term may run, by the rights of the node.
use Rattle.std.proofs.Common.{◌≡◌, ℕ, ◌+◌, ◌≤◌, Bool, true, false, List, Option, Some, None, refl, sym, ◌∙◌, ap, subst, arith, zero, suc, cond, length, ◌<◌}
use Rattle.std.proofs.lemmas.Bool.Decides.{nat_tests}
use Rattle.std.proofs.lemmas.Int.{ints}
use Rattle.std.specs.Prelude.{ℤ, pos, ◌≤ℤ◌, ◌-ℤ◌, ◌↔◌, IsTrue, nat_le, option_map, slice_get, is_some, not, ◌&&◌, ◌||◌}
use Rattle.std.specs.Option.{option_map_or, IsSome}
use Rattle.actions.specs.Value.{TermValue}
use Rattle.actions.specs.Choice.{choice, first_below, triggers, triggers_by, word_at}
use Rattle.counters.specs.Budgets.{Budget, rights, given_to, gone_from}
use Rattle.stamp_register.specs.Keys.{KeyValue, terms_set}
use Rattle.operations.specs.Operations.{count_at, count_in, count_under}
use Rattle.replica_state.specs.States.{State, budget, budget_under, budget_of, rights_of}
use Rattle.node_steps.specs.Nodes.{setting_in, setting_of}
use Rattle.actions.proofs.ChoiceLemmas.{first_from_choice}
use Rattle.actions.specs.Choice.{passes}
use Rattle.node_steps.specs.Outcomes.{spent_by}
use Rattle.node_steps.specs.Passes.{may_run, has_rights_of}

-- what a setting says of its key
pub record IsSetting (held : Option KeyValue) (key : KeyValue) (terms : List TermValue) : Type 0 where
  pub is_key : held ≡ Some key
  pub is_terms : terms_set key.body ≡ Some terms

pub setting_parts : (held : Option KeyValue) (key : KeyValue) (terms : List TermValue) →
    setting_in held ≡ Some (key, terms) → IsSetting held key terms
setting_parts None key terms h = absurd (let impossible : ◌≡◌ {A = Option (KeyValue × List TermValue)} None
    (Some (key, terms)) = h in cc)
setting_parts (Some other) key terms h = by_terms (terms_set other.body) refl h
  where
    by_terms : (found : Option (List TermValue)) → terms_set other.body ≡ found →
        option_map {U = KeyValue × List TermValue} (λ ts. (other, ts)) found ≡ Some (key, terms) →
        IsSetting (Some other) key terms
    by_terms None e p = absurd (let impossible : ◌≡◌ {A = Option (KeyValue × List TermValue)} None (Some (key, terms)) =
        p in cc)
    by_terms (Some ts) e p =
        let same : ◌≡◌ {A = KeyValue × List TermValue} (other, ts) (key, terms) = cc in
        let same_key : other ≡ key = ap (λ (s : KeyValue × List TermValue). s.0) same in
        let same_terms : ts ≡ terms = ap (λ (s : KeyValue × List TermValue). s.1) same in
        record {
          is_key = ap (λ (k : KeyValue). Some k) same_key;
          is_terms = ap (λ (k : KeyValue). terms_set k.body) (sym same_key) ∙ e ∙
              ap (λ (l : List TermValue). Some l) same_terms;
        }

-- a test is the test of the numbers that it stands for
by_numbers : (t : Bool) (a b : ℕ) → IsTrue t ↔ (pos 1 ≤ℤ (pos a -ℤ pos b)) → t ≡ nat_le (b + 1) a
by_numbers true a b h = let more : pos 1 ≤ℤ (pos a -ℤ pos b) = h.0 refl in let le : b + 1 ≤ a = omega (arith, ints) in
    grind (arith, nat_tests)
by_numbers false a b h = by_test (nat_le (b + 1) a) refl
  where
    by_test : (r : Bool) → nat_le (b + 1) a ≡ r → false ≡ r
    by_test false e = refl
    by_test true e =
        let le : b + 1 ≤ a = grind (arith, nat_tests) in
        let more : pos 1 ≤ℤ (pos a -ℤ pos b) = omega (arith, ints) in
        let impossible : false ≡ true = h.1 more in
        cc

-- of a term that isn't counted nobody has a right
pub counted_by_rights : (v : State) (name : List ℕ) (term i n : ℕ) → 0 < n → pos n ≤ℤ rights_of v name term i →
    IsSome (budget_of v name term)
counted_by_rights v name term i n some enough = by_budget (budget_of v name term) enough
  where
    by_budget : (found : Option Budget) → pos n ≤ℤ option_map_or (λ (b : Budget). rights b i) found (pos 0) →
        IsSome found
    by_budget None more = absurd (omega (arith, ints, some, more))
    by_budget (Some b) more = refl

-- a term that the setting counts has a budget
pub counted_budget : (v : State) (name : List ℕ) (key : KeyValue) (terms : List TermValue) (term n : ℕ) →
    setting_of v name ≡ Some (key, terms) → count_at terms term ≡ Some n → IsSome (budget_of v name term)
counted_budget v name key terms term n set counted =
    let parts = setting_parts (v.key name) key terms set in
    subst (λ (held : Option KeyValue). IsSome (budget_under v name term held)) (sym parts.is_key)
    (subst (λ (found : Option (List TermValue)). IsSome (option_map (λ m. budget v name term key.node m)
    (count_under found term))) (sym parts.is_terms)
    (subst (λ (found : Option ℕ). IsSome (option_map (λ m. budget v name term key.node m) found)) (sym counted) refl))

-- the rights of a node of a counted term of the key that it holds
pub counted_rights : (i : ℕ) (v : State) (name : List ℕ) (key : KeyValue) (terms : List TermValue) (term : ℕ) →
    setting_of v name ≡ Some (key, terms) → rights_of v name term i ≡ option_map_or (λ (b : Budget). rights b i)
    (option_map (λ n. budget v name term key.node n) (count_at terms term)) (pos 0)
counted_rights i v name key terms term set =
    let parts = setting_parts (v.key name) key terms set in
    ap (λ (held : Option KeyValue). option_map_or (λ (b : Budget). rights b i) (budget_under v name term held) (pos 0))
    parts.is_key ∙
    ap (λ (found : Option ℕ). option_map_or (λ (b : Budget). rights b i)
    (option_map (λ n. budget v name term key.node n) found) (pos 0))
    (ap (λ (found : Option (List TermValue)). count_under found term) parts.is_terms)

-- a term may run exactly where the node has a right of it
pub may_by_rights : (i : ℕ) (v : State) (name : List ℕ) (key : KeyValue) (terms : List TermValue) (term : ℕ)
    (t : Bool) → setting_of v name ≡ Some (key, terms) → IsTrue t ↔ (pos 1 ≤ℤ rights_of v name term i) →
    t ≡ may_run i v name key terms term
may_by_rights i v name key terms term t set h =
    by_count (count_at terms term) (subst (λ (z : ℤ). IsTrue t ↔ (pos 1 ≤ℤ z))
    (counted_rights i v name key terms term set) h)
  where
    by_count : (found : Option ℕ) → IsTrue t ↔ (pos 1 ≤ℤ option_map_or (λ (b : Budget). rights b i)
        (option_map (λ n. budget v name term key.node n) found) (pos 0)) → t ≡ has_rights_of i v name key term 1 found
    by_count None p = never t p
      where
        never : (r : Bool) → IsTrue r ↔ (pos 1 ≤ℤ pos 0) → r ≡ false
        never false q = refl
        never true q = absurd (let impossible : pos 1 ≤ℤ pos 0 = q.0 refl in omega (arith, ints))
    by_count (Some n) p = by_numbers t (given_to (budget v name term key.node n) i)
        (gone_from (budget v name term key.node n) i) p

-- a choice asks for no term past the last
first_below-same : (limit : ℕ) (f g : ℕ → Bool) → ((k : ℕ) → k < limit → f k ≡ g k) →
    first_below limit f ≡ first_below limit g
first_below-same zero f g h = refl
first_below-same (suc limit) f g h =
    (λ p. cond (h 0 (omega arith) p) (Some 0) (option_map suc
    (first_below-same limit (λ k. f (suc k)) (λ k. g (suc k)) (λ k low. h (suc k) (omega arith)) p)))

pub choice-same : (ts : List TermValue) (words : List ℕ) (may other : ℕ → Bool) →
    ((k : ℕ) → k < length ts → may k ≡ other k) → choice ts words may ≡ choice ts words other
unfolding choice
choice-same ts words may other h = first_below-same (length ts) (triggers ts words may) (triggers ts words other)
    (λ k low. ap (λ (m : Bool). triggers_by (slice_get ts k) (word_at ts words k) m) (h k low))

-- a counted term that is chosen may run
pub chosen_may : (terms : List TermValue) (words : List ℕ) (may : ℕ → Bool) (k n : ℕ) →
    Some k ≡ choice terms words may → count_at terms k ≡ Some n → may k ≡ true
chosen_may terms words may k n e counted = by_term (slice_get terms k) refl
    (first_from_choice terms words may (Some k) e).1 counted
  where
    by_count : (passed m : Bool) (found : Option ℕ) → found ≡ Some n → (passed && (not (is_some found) || m)) ≡ true →
        m ≡ true
    by_count true true found c h = refl
    by_count true false None c h = absurd (let impossible : ◌≡◌ {A = Option ℕ} None (Some n) = c in cc)
    by_count true false (Some x) c h = h
    by_count false m found c h = absurd (let impossible : false ≡ true = h in cc)

    by_term : (found : Option TermValue) → slice_get terms k ≡ found →
        triggers_by found (word_at terms words k) (may k) ≡ true → count_in found ≡ Some n → may k ≡ true
    by_term None p h c = absurd (let impossible : false ≡ true = h in cc)
    by_term (Some term) p h c = by_count (passes term (word_at terms words k)) (may k) term.count c h

-- what a pass spends, the node has a right of
pub spent_right : (i : ℕ) (v : State) (name words : List ℕ) (key : KeyValue) (terms : List TermValue)
    (chosen : Option ℕ) (term : ℕ) → setting_of v name ≡ Some (key, terms) →
    chosen ≡ choice terms words (may_run i v name key terms) → spent_by terms chosen ≡ Some term →
    pos 1 ≤ℤ rights_of v name term i
spent_right i v name words key terms None term set c h = absurd
    (let impossible : ◌≡◌ {A = Option ℕ} None (Some term) = h in cc)
spent_right i v name words key terms (Some k) term set c h = by_count (count_at terms k) refl h
  where
    enough : (n : ℕ) → nat_le (gone_from (budget v name k key.node n) i + 1) (given_to (budget v name k key.node n) i) ≡
        true → pos 1 ≤ℤ rights (budget v name k key.node n) i
    enough n t = let le : gone_from (budget v name k key.node n) i + 1 ≤ given_to (budget v name k key.node n) i =
        grind (arith, nat_tests) in omega (arith, ints)

    by_count : (found : Option ℕ) → count_at terms k ≡ found → cond (is_some found) (Some k) None ≡ Some term →
        pos 1 ≤ℤ rights_of v name term i
    by_count None n p = absurd (let impossible : ◌≡◌ {A = Option ℕ} None (Some term) = p in cc)
    by_count (Some n) e p =
        let same : k ≡ term = cc in
        let may : has_rights_of i v name key k 1 (Some n) ≡ true =
        sym (ap (λ (o : Option ℕ). has_rights_of i v name key k 1 o) e) ∙
        chosen_may terms words (may_run i v name key terms) k n c e in
        let amount = counted_rights i v name key terms k set ∙
        ap (λ (found : Option ℕ). option_map_or (λ (b : Budget). rights b i)
        (option_map (λ m. budget v name k key.node m) found) (pos 0)) e in
        subst (λ t. pos 1 ≤ℤ rights_of v name t i) same (subst (λ (z : ℤ). pos 1 ≤ℤ z) (sym amount) (enough n may))
