-- Of a point at most one shift of a term goes to a node.
use Rattle.std.proofs.Common.{◌≡◌, ◌≢◌, ℕ, zero, suc, ◌+◌, ◌<◌, ◌≤◌, Bool, true, false, cond, List, [], ◌∷◌, length, take, map, refl, sym, ◌∙◌, ap, arith}
use Rattle.std.specs.Prelude.{nat_lt, ◌==◌, ◌&&◌, not, flat_map, count_by, Option, pos}
use Rattle.std.specs.Int.{int_gap}
use Rattle.std.specs.List.{filter, range_with_len}
use Rattle.std.proofs.lemmas.Bool.Decides.{nat_tests}
use Rattle.std.proofs.lemmas.List.Sorted.{sum_by-IsPermutation}
use Rattle.std.proofs.lemmas.List.Sums.{sum_by-append, sum_by-cons, sum_by-take-le}
use Rattle.actions.specs.Limits.{max_terms}
use Rattle.replica_state.specs.States.{State, rights_of}
use Rattle.sharing.specs.declared.shift.Shift.{Shift}
use Rattle.sharing.specs.Memory.{Recalled}
use Rattle.sharing.specs.Shares.{has_passed, line_of, passers, point_shifts, share_of, spare_of, still_now, term_shifts, waiting}
use Rattle.sharing.proofs.Due.{line_has_all}

count_filter_step : (q p : ℕ → Bool) (x : ℕ) (xs : List ℕ) (b : Bool) → count_by q (filter p xs) ≤ count_by q xs →
    count_by q (cond b (x ∷ filter p xs) (filter p xs)) ≤ count_by q (x ∷ xs)
count_filter_step q p x xs true rest =
    let all = sum_by-cons (λ y. cond (q y) 1 0) x xs in
    let few = sum_by-cons (λ y. cond (q y) 1 0) x (filter p xs) in
    omega (arith, rest, all, few)
count_filter_step q p x xs false rest =
    let all = sum_by-cons (λ y. cond (q y) 1 0) x xs in
    omega (arith, rest, all)

count_filter : (q p : ℕ → Bool) (xs : List ℕ) → count_by q (filter p xs) ≤ count_by q xs
count_filter q p [] = omega arith
count_filter q p (x ∷ xs) = count_filter_step q p x xs (p x) (count_filter q p xs)

-- a number stands once at most among those from a on, and not at all below a
test_is : (x to : ℕ) → x ≢ to → ◌≡◌ {A = ℕ} (cond (x == to) 1 0) 0
test_is x to h = grind (arith, nat_tests)

test_le : (b : Bool) → cond b 1 0 ≤ 1
test_le true = omega arith
test_le false = omega arith

range_none : (to a n : ℕ) → to < a → count_by (λ x. x == to) (range_with_len a n) ≡ 0
range_none to a zero h = refl
range_none to a (suc n) h =
    let first = test_is a to (λ same. omega arith) in
    let all = sum_by-cons (λ x. cond (x == to) 1 0) a (range_with_len (a + 1) n) in
    let rest = range_none to (a + 1) n (omega arith) in
    omega (arith, first, all, rest)

is_below : (a b : ℕ) → nat_lt a b ≡ true → a < b
is_below a b h = grind (arith, nat_tests)

is_not_below : (a b : ℕ) → nat_lt a b ≡ false → b ≤ a
is_not_below a b h = grind (arith, nat_tests)

range_once_step : (to a n : ℕ) (b : Bool) → nat_lt to (a + 1) ≡ b →
    count_by (λ x. x == to) (range_with_len (a + 1) n) ≤ 1 → count_by (λ x. x == to) (range_with_len a (suc n)) ≤ 1
range_once_step to a n true h rest =
    let below = is_below to (a + 1) h in
    let none = range_none to (a + 1) n below in
    let first = test_le (a == to) in
    let all = sum_by-cons (λ x. cond (x == to) 1 0) a (range_with_len (a + 1) n) in
    omega (arith, none, first, all)
range_once_step to a n false h rest =
    let above = is_not_below to (a + 1) h in
    let first = test_is a to (λ same. omega (arith, same, above)) in
    let all = sum_by-cons (λ x. cond (x == to) 1 0) a (range_with_len (a + 1) n) in
    omega (arith, rest, first, all)

range_once : (to a n : ℕ) → count_by (λ x. x == to) (range_with_len a n) ≤ 1
range_once to a zero = omega arith
range_once to a (suc n) = range_once_step to a n (nat_lt to (a + 1)) refl (range_once to (a + 1) n)

-- the shifts of a term, counted by whom they go to
none_made : (b : Bool) → ◌≡◌ {A = ℕ} 0 (cond b 0 0)
none_made true = refl
none_made false = refl

one_made : (b e : Bool) (n : ℕ) → ◌≡◌ {A = ℕ} (cond (b && e) 1 0 + cond b n 0) (cond b (cond e 1 0 + n) 0)
one_made true e n = refl
one_made false e n = refl

count_made : (name : List ℕ) (t amount term to : ℕ) (xs : List ℕ) →
    count_by (λ (shift : Shift). shift.term == term && shift.to == to)
    (map (λ x. record { name = name; term = t; to = x; amount = amount }) xs)
    ≡ cond (t == term) (count_by (λ x. x == to) xs) 0
count_made name t amount term to [] = none_made (t == term)
count_made name t amount term to (x ∷ xs) =
    let make : ℕ → Shift = λ y. record { name = name; term = t; to = y; amount = amount } in
    sum_by-cons (λ (shift : Shift). cond (shift.term == term && shift.to == to) 1 0) (make x) (map make xs)
    ∙ ap (λ n. cond ((t == term) && (x == to)) 1 0 + n) (count_made name t amount term to xs)
    ∙ one_made (t == term) (x == to) (count_by (λ y. y == to) xs)
    ∙ ap (λ n. cond (t == term) n 0) (sym (sum_by-cons (λ y. cond (y == to) 1 0) x xs))

line_once : (v : State) (name : List ℕ) (recalled : Option Recalled) (node nodes term spare to : ℕ) →
    count_by (λ x. x == to)
    (take spare (line_of (v.execs name term) (waiting v name term (passers v name recalled node nodes)))) ≤ 1
line_once v name recalled node nodes term spare to =
    let others = passers v name recalled node nodes in
    let waits = waiting v name term others in
    let line = line_of (v.execs name term) waits in
    let one : ℕ → ℕ = λ x. cond (x == to) 1 0 in
    let a = sum_by-take-le one line spare in
    let b = sum_by-IsPermutation one waits line (line_has_all (v.execs name term) waits) in
    let c = count_filter (λ x. x == to) (λ other. int_gap (pos 0) (rights_of v name term other) == 0) others in
    let d = count_filter (λ x. x == to) (λ other. not (other == node) && has_passed v name recalled other)
    (range_with_len 0 nodes) in
    let e = range_once to 0 nodes in
    omega (arith, a, b, c, d, e)

term_other : (v : State) (name : List ℕ) (node still : ℕ) (others : List ℕ) (t term to : ℕ) → t ≢ term →
    count_by (λ (shift : Shift). shift.term == term && shift.to == to) (term_shifts v name node still others t) ≡ 0
unfolding term_shifts
term_other v name node still others t term to other =
    let spare = spare_of (rights_of v name t node) still in
    let line = line_of (v.execs name t) (waiting v name t others) in
    let differs : (t == term) ≡ false = grind (arith, nat_tests) in
    count_made name t (share_of spare (length line)) term to (take spare line)
    ∙ ap (λ b. cond b (count_by (λ x. x == to) (take spare line)) 0) differs

at_most : (b : Bool) (n : ℕ) → n ≤ 1 → cond b n 0 ≤ 1
at_most true n h = h
at_most false n h = omega arith

term_once : (v : State) (name : List ℕ) (recalled : Option Recalled) (node nodes still t term to : ℕ) →
    count_by (λ (shift : Shift). shift.term == term && shift.to == to)
    (term_shifts v name node still (passers v name recalled node nodes) t) ≤ 1
unfolding term_shifts
term_once v name recalled node nodes still t term to =
    let others = passers v name recalled node nodes in
    let spare = spare_of (rights_of v name t node) still in
    let line = line_of (v.execs name t) (waiting v name t others) in
    let same = count_made name t (share_of spare (length line)) term to (take spare line) in
    let few = at_most (t == term) (count_by (λ x. x == to) (take spare line))
    (line_once v name recalled node nodes t spare to) in
    omega (arith, same, few)

flat_none : (P : Shift → Bool) (T : ℕ → List Shift) (term : ℕ) →
    ((t : ℕ) → t ≢ term → count_by P (T t) ≡ 0) → (a n : ℕ) → term < a →
    count_by P (flat_map T (range_with_len a n)) ≡ 0
flat_none P T term other a zero h = refl
flat_none P T term other a (suc n) h =
    let first = other a (λ same. omega arith) in
    let rest = flat_none P T term other (a + 1) n (omega arith) in
    let all = sum_by-append (λ shift. cond (P shift) 1 0) (T a) (flat_map T (range_with_len (a + 1) n)) in
    omega (arith, first, rest, all)

flat_once_step : (P : Shift → Bool) (T : ℕ → List Shift) (term : ℕ) →
    ((t : ℕ) → t ≢ term → count_by P (T t) ≡ 0) → ((t : ℕ) → count_by P (T t) ≤ 1) → (a n : ℕ) (b : Bool) →
    nat_lt term (a + 1) ≡ b → count_by P (flat_map T (range_with_len (a + 1) n)) ≤ 1 →
    count_by P (flat_map T (range_with_len a (suc n))) ≤ 1
flat_once_step P T term other each a n true h rest =
    let below = is_below term (a + 1) h in
    let none = flat_none P T term other (a + 1) n below in
    let first = each a in
    let all = sum_by-append (λ shift. cond (P shift) 1 0) (T a) (flat_map T (range_with_len (a + 1) n)) in
    omega (arith, none, first, all)
flat_once_step P T term other each a n false h rest =
    let above = is_not_below term (a + 1) h in
    let first = other a (λ same. omega (arith, same, above)) in
    let all = sum_by-append (λ shift. cond (P shift) 1 0) (T a) (flat_map T (range_with_len (a + 1) n)) in
    omega (arith, first, rest, all)

flat_once : (P : Shift → Bool) (T : ℕ → List Shift) (term : ℕ) →
    ((t : ℕ) → t ≢ term → count_by P (T t) ≡ 0) → ((t : ℕ) → count_by P (T t) ≤ 1) → (a n : ℕ) →
    count_by P (flat_map T (range_with_len a n)) ≤ 1
flat_once P T term other each a zero = omega arith
flat_once P T term other each a (suc n) =
    flat_once_step P T term other each a n (nat_lt term (a + 1)) refl (flat_once P T term other each (a + 1) n)

pub point_once : (v : State) (node nodes : ℕ) (recalled : Option Recalled) (name : List ℕ) (term to : ℕ) →
    count_by (λ (shift : Shift). shift.term == term && shift.to == to) (point_shifts v node nodes recalled name) ≤ 1
unfolding point_shifts
point_once v node nodes recalled name term to =
    let still = still_now v name recalled node in
    let others = passers v name recalled node nodes in
    flat_once (λ (shift : Shift). shift.term == term && shift.to == to) (term_shifts v name node still others) term
    (λ t. term_other v name node still others t term to)
    (λ t. term_once v name recalled node nodes still t term to) 0 max_terms
