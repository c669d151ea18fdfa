-- Who stands in a line, in which order; and who is given rights.
use Rattle.std.proofs.Common.{◌≡◌, ◌≢◌, ℕ, ◌<◌, ◌≤◌, Bool, true, false, List, [], ◌∷◌, ◌++◌, length, take, get_or, sym, subst, arith}
use Rattle.std.specs.Prelude.{nat_lt, ◌==◌, ◌&&◌, not, flat_map, ℤ, pos, ◌≤ℤ◌, Option}
use Rattle.std.specs.Int.{int_gap}
use Rattle.std.specs.List.{All, filter, fold, insert, position_or_len, range_with_len}
use Rattle.std.specs.List.Sorted.{IsPermutation, IsNonDecreasingBy}
use Rattle.std.proofs.lemmas.Bool.Decides.{nat_tests}
use Rattle.std.proofs.lemmas.Int.{ints}
use Rattle.std.proofs.lemmas.List.{append-nil}
use Rattle.std.proofs.lemmas.List.Elements.{All-append, All-filter, All-map, All-nil, All-take, filter_passes}
use Rattle.std.proofs.lemmas.List.FromFn.{get_or-range_with_len, length-range_with_len}
use Rattle.std.proofs.lemmas.List.Sorted.{All-permutation, IsNonDecreasingBy-insert, IsNonDecreasingBy-short, IsPermutation-append_left, IsPermutation-insert, IsPermutation-middle, IsPermutation-refl, IsPermutation-trans}
use Rattle.std.proofs.lemmas.List.Sums.{fails_before_first, passes_at_first, prefix_len-le-length}
use Rattle.actions.specs.Limits.{max_terms}
use Rattle.replica_state.specs.States.{State, rights_of}
use Rattle.sharing.specs.declared.shift.Shift.{Shift}
use Rattle.sharing.specs.Memory.{Recalled, recall, seen}
use Rattle.sharing.specs.Laws.{IsDue}
use Rattle.sharing.specs.Shares.{line_of, passers, placed, point_shifts, share_of, shifts_of, spare_of, still_now, term_shifts, waiting}

-- a line has each of those that were to stand in it
line_from : (e : ℕ → ℕ) (acc nodes : List ℕ) → IsPermutation (acc ++ nodes) (fold (placed e) acc nodes)
line_from e acc [] = let P : List ℕ → Type 0 = λ xs. IsPermutation xs acc in
    subst P (sym (append-nil acc)) (IsPermutation-refl acc)
line_from e acc (x ∷ xs) =
    let place = position_or_len (λ other. nat_lt (e x) (e other)) acc in
    IsPermutation-trans (acc ++ x ∷ xs) (placed e acc x ++ xs) (fold (placed e) (placed e acc x) xs)
    (IsPermutation-trans (acc ++ x ∷ xs) (x ∷ (acc ++ xs)) (placed e acc x ++ xs)
    (IsPermutation-middle acc x xs)
    (IsPermutation-append_left xs (x ∷ acc) (insert acc place x) (IsPermutation-insert acc place x)))
    (line_from e (placed e acc x) xs)

pub line_has_all : (e : ℕ → ℕ) (nodes : List ℕ) → IsPermutation nodes (line_of e nodes)
line_has_all e nodes = line_from e [] nodes

-- and is in order
not_before : (a b : ℕ) → nat_lt a b ≡ false → b ≤ a
not_before a b h = grind (arith, nat_tests)

before : (a b : ℕ) → nat_lt a b ≡ true → a ≤ b
before a b h = grind (arith, nat_tests)

placed_in_order : (e : ℕ → ℕ) (line : List ℕ) (x : ℕ) → IsNonDecreasingBy e line → IsNonDecreasingBy e (placed e line x)
placed_in_order e line x h =
    let later : ℕ → Bool = λ other. nat_lt (e x) (e other) in
    let place = position_or_len later line in
    IsNonDecreasingBy-insert e line place x h (prefix_len-le-length (λ other. not (later other)) line)
    (λ k d low. not_before (e x) (e (get_or line k d)) (fails_before_first later line k d low))
    (λ k d low high.
    let inside : place < length line = omega (arith, low, high) in
    let at : e x ≤ e (get_or line place d) = before (e x) (e (get_or line place d)) (passes_at_first later line d inside) in
    let rises : e (get_or line place d) ≤ e (get_or line k d) = h place k d low high in
    omega (arith, at, rises))

order_from : (e : ℕ → ℕ) (acc nodes : List ℕ) → IsNonDecreasingBy e acc → IsNonDecreasingBy e (fold (placed e) acc nodes)
order_from e acc [] h = h
order_from e acc (x ∷ xs) h = order_from e (placed e acc x) xs (placed_in_order e acc x h)

pub line_in_order : (e : ℕ → ℕ) (nodes : List ℕ) → IsNonDecreasingBy e (line_of e nodes)
line_in_order e nodes = order_from e [] nodes (IsNonDecreasingBy-short e [] (omega arith))

-- who is given rights
pub all_flat : {X Y : Type 0} (P : Y → Type 0) (f : X → List Y) → ((x : X) → All P (f x)) → (xs : List X) →
    All P (flat_map f xs)
all_flat P f each [] = All-nil P
all_flat P f each (x ∷ xs) = All-append P (f x) (flat_map f xs) (each x) (all_flat P f each xs)

all_both : {X : Type 0} (P Q : X → Type 0) (xs : List X) → All P xs → All Q xs → All (λ x. P x × Q x) xs
all_both P Q xs h k i d low = (h i d low, k i d low)

all_weaker : {X : Type 0} (P Q : X → Type 0) (xs : List X) → ((x : X) → P x → Q x) → All P xs → All Q xs
all_weaker P Q xs w h i d low = w (get_or xs i d) (h i d low)

pub all_below : (n : ℕ) → All (λ x. x < n) (range_with_len 0 n)
all_below n i d low =
    let few : i < n = omega (arith, low, length-range_with_len 0 n) in
    let is = get_or-range_with_len 0 n i d few in
    omega (arith, few, is)

abbrev Passed : State → List ℕ → Option Recalled → ℕ → ℕ → ℕ → Type 0
Passed v name recalled node nodes other =
    (other < nodes) × (other ≢ node) × (seen recalled other < v.hits name other)

passed_other : (other node before now : ℕ) → (not (other == node) && nat_lt before now) ≡ true → other ≢ node
passed_other other node before now h = grind (arith, nat_tests)

passed_later : (other node before now : ℕ) → (not (other == node) && nat_lt before now) ≡ true → before < now
passed_later other node before now h = grind (arith, nat_tests)

pub passers_passed : (v : State) (name : List ℕ) (recalled : Option Recalled) (node nodes : ℕ) →
    All (Passed v name recalled node nodes) (passers v name recalled node nodes)
passers_passed v name recalled node nodes =
    let test : ℕ → Bool = λ other. not (other == node) && nat_lt (seen recalled other) (v.hits name other) in
    let range = range_with_len 0 nodes in
    all_weaker (λ other. (other < nodes) × (test other ≡ true)) (Passed v name recalled node nodes) (filter test range)
    (λ other p. (
      p.0,
      passed_other other node (seen recalled other) (v.hits name other) p.1,
      passed_later other node (seen recalled other) (v.hits name other) p.1,
    ))
    (all_both (λ other. other < nodes) (λ other. test other ≡ true) (filter test range)
    (All-filter test (λ other. other < nodes) range (all_below nodes)) (filter_passes test range))

right_less : (r : ℤ) → (int_gap (pos 0) r == 0) ≡ true → r ≤ℤ pos 0
right_less r h = grind (arith, ints, nat_tests)

at_least_one : (s m : ℕ) → 0 < share_of s m
at_least_one s m = omega arith

term_due : (v : State) (node nodes : ℕ) (memory : List Recalled) (name : List ℕ) (still term : ℕ) →
    All (IsDue v node nodes memory)
    (term_shifts v name node still (passers v name (recall memory name) node nodes) term)
unfolding term_shifts
term_due v node nodes memory name still term =
    let recalled = recall memory name in
    let others = passers v name recalled node nodes in
    let free : ℕ → Bool = λ other. int_gap (pos 0) (rights_of v name term other) == 0 in
    let waits = waiting v name term others in
    let spare = spare_of (rights_of v name term node) still in
    let line = line_of (v.execs name term) waits in
    let amount = share_of spare (length line) in
    let make : ℕ → Shift = λ to. record { name = name; term = term; to = to; amount = amount } in
    let Waits : ℕ → Type 0 = λ other. Passed v name recalled node nodes other × (free other ≡ true) in
    let all = all_both (Passed v name recalled node nodes) (λ other. free other ≡ true) waits
    (All-filter free (Passed v name recalled node nodes) others (passers_passed v name recalled node nodes))
    (filter_passes free others) in
    let stand : All Waits line = All-permutation Waits waits line (line_has_all (v.execs name term) waits) all in
    All-map (IsDue v node nodes memory) make (take spare line)
    (all_weaker Waits (λ to. IsDue v node nodes memory (make to)) (take spare line)
    (λ to w. (w.0.0, w.0.1, w.0.2, right_less (rights_of v name term to) w.1, at_least_one spare (length line)))
    (All-take Waits spare line stand))

pub all_due : (v : State) (node nodes : ℕ) (memory : List Recalled) →
    All (IsDue v node nodes memory) (shifts_of v node nodes memory)
unfolding shifts_of point_shifts
all_due v node nodes memory =
    all_flat (IsDue v node nodes memory) (λ name. point_shifts v node nodes (recall memory name) name)
    (λ name. let recalled = recall memory name in
    let still = still_now v name recalled node in
    all_flat (IsDue v node nodes memory)
    (term_shifts v name node still (passers v name recalled node nodes))
    (term_due v node nodes memory name still) (range_with_len 0 max_terms))
    v.names
