-- How much a node gives of a term, and what it gives where nobody passed.
use Rattle.std.proofs.Common.{◌≡◌, ◌≢◌, ℕ, zero, suc, ◌-◌, ◌*◌, ◌/◌, ◌^◌, ◌≤◌, Bool, false, cond, List, [], ◌∷◌, ◌++◌, length, take, map, None, refl, ◌∙◌, ap, subst, arith}
use Rattle.std.specs.Prelude.{min, max, nat_lt, ◌==◌, ◌&&◌, not, flat_map, ℤ, pos, ◌≤ℤ◌}
use Rattle.std.specs.Option.{option_map_or}
use Rattle.std.specs.Int.{int_gap}
use Rattle.std.specs.List.{All, filter, range_with_len}
use Rattle.std.proofs.Math.Nat.{mul-le-mul_left, mul_comm}
use Rattle.std.proofs.Math.Seq.{take-nil}
use Rattle.std.proofs.lemmas.Int.{ints}
use Rattle.std.proofs.lemmas.Nat.{div-add-mod'}
use Rattle.std.proofs.lemmas.Bool.Decides.{nat_tests}
use Rattle.std.proofs.lemmas.List.{length-take, length-map}
use Rattle.std.proofs.lemmas.List.Elements.{All-map}
use Rattle.std.proofs.lemmas.List.Sums.{sum_by-le}
use Rattle.actions.specs.Limits.{max_terms}
use Rattle.counters.specs.Budgets.{rights}
use Rattle.replica_state.specs.States.{State, budget_under, rights_of}
use Rattle.sharing.specs.declared.shift.Shift.{Shift}
use Rattle.sharing.specs.Memory.{Recalled, recall, seen}
use Rattle.sharing.specs.Laws.{moved_in}
use Rattle.sharing.proofs.Lines.{none_spared}
use Rattle.sharing.specs.Shares.{kept, line_of, passers, point_shifts, share_of, shares_in, shifts_of, spare_of, still_now, term_shifts, waiting}

-- half of something, divided among some, and at least one each, is no more than it in all
shared_fits : (s m q : ℕ) → q * m ≤ s → min s m * max 1 q ≤ s
shared_fits s m zero h = omega arith
shared_fits s m (suc q) h =
    let great : max 1 (suc q) ≡ suc q = omega arith in
    let few : min s m ≤ m = omega arith in
    let most : suc q * min s m ≤ suc q * m = mul-le-mul_left (suc q) few in
    let same : min s m * max 1 (suc q) ≡ suc q * min s m =
    ap (λ k. min s m * k) great ∙ mul_comm (min s m) (suc q) in
    omega (arith, most, same)

shares_fit : (s m : ℕ) → min s m * share_of s m ≤ s
shares_fit s m =
    let whole = div-add-mod' (s / 2) m in
    shared_fits s m (s / 2 / m) (omega (arith, whole))

each_is : (name : List ℕ) (term amount : ℕ) (to : List ℕ) →
    All (λ (shift : Shift). shift.amount ≤ amount)
    (map (λ t. record { name = name; term = term; to = t; amount = amount }) to)
each_is name term amount to =
    All-map (λ (shift : Shift). shift.amount ≤ amount)
    (λ t. record { name = name; term = term; to = t; amount = amount }) to (λ k d h. omega arith)

pub shares_within : (name : List ℕ) (term spare : ℕ) (line : List ℕ) → moved_in (shares_in name term spare line) ≤ spare
shares_within name term spare line =
    let amount = share_of spare (length line) in
    let first = take spare line in
    let make : ℕ → Shift = λ t. record { name = name; term = term; to = t; amount = amount } in
    let most = sum_by-le (λ (shift : Shift). shift.amount) amount (map make first) (each_is name term amount first) in
    let long : length (map make first) ≡ min spare (length line) = length-map first make ∙ length-take spare line in
    let product = ap (λ n. n * amount) long in
    let fits = shares_fit spare (length line) in
    omega (arith, most, product, fits)

pub of_its_rights : (v : State) (name : List ℕ) (node still : ℕ) (others : List ℕ) (term : ℕ) →
    moved_in (term_shifts v name node still others term) ≤ int_gap (pos (kept still)) (rights_of v name term node)
unfolding term_shifts
of_its_rights v name node still others term =
    let has = int_gap (pos (kept still)) (rights_of v name term node) in
    let spare = spare_of (rights_of v name term node) still in
    let less : min has (2 ^ 64 - 1) ≤ has = omega arith in
    let within : moved_in (shares_in name term spare (line_of (v.execs name term) (waiting v name term others))) ≤ spare =
    shares_within name term spare (line_of (v.execs name term) (waiting v name term others)) in
    omega (arith, less, within)

-- where nobody passed, nothing is given
pub none_to_nobody : (v : State) (name : List ℕ) (node still term : ℕ) → term_shifts v name node still [] term ≡ []
unfolding term_shifts
none_to_nobody v name node still term =
    let spare = spare_of (rights_of v name term node) still in
    ap (map (λ to. record { name = name; term = term; to = to; amount = share_of spare 0 })) (take-nil spare)

-- of a term to which the node has no right nothing is given
no_gap : (k : ℕ) (r : ℤ) → (pos 1 ≤ℤ r → ⊥) → int_gap (pos k) r ≡ 0
no_gap k r h = grind (arith, ints)

pub none_without_rights : (v : State) (name : List ℕ) (node still : ℕ) (others : List ℕ) (term : ℕ) →
    (pos 1 ≤ℤ rights_of v name term node → ⊥) → term_shifts v name node still others term ≡ []
unfolding term_shifts
none_without_rights v name node still others term h =
    let line = line_of (v.execs name term) (waiting v name term others) in
    let spare = spare_of (rights_of v name term node) still in
    none_spared name term spare line
    (ap (λ n. min n (2 ^ 64 - 1)) (no_gap (kept still) (rights_of v name term node) h))

pub none_without_key : (v : State) (name : List ℕ) (node still : ℕ) (others : List ℕ) (term : ℕ) →
    v.key name ≡ None → term_shifts v name node still others term ≡ []
none_without_key v name node still others term h =
    none_without_rights v name node still others term
    (λ one. let none : rights_of v name term node ≡ pos 0 =
    ap (λ key. option_map_or (λ b. rights b node) (budget_under v name term key) (pos 0)) h in
    no_one (subst (λ r. pos 1 ≤ℤ r) none one))
  where
    no_one : pos 1 ≤ℤ pos 0 → ⊥
    no_one e = grind (arith, ints)

pub none_flat : {X Y : Type 0} (f : X → List Y) → ((x : X) → f x ≡ []) → (xs : List X) → flat_map f xs ≡ []
none_flat f none [] = refl
none_flat f none (x ∷ xs) = ap (λ ys. ys ++ flat_map f xs) (none x) ∙ none_flat f none xs

none_passes : (p : ℕ → Bool) → ((x : ℕ) → p x ≡ false) → (xs : List ℕ) → filter p xs ≡ []
none_passes p none [] = refl
none_passes p none (x ∷ xs) =
    ap (λ b. cond b (x ∷ filter p xs) (filter p xs)) (none x) ∙ none_passes p none xs

quiet : (other node before now : ℕ) → (other ≢ node → now ≤ before) →
    (not (other == node) && nat_lt before now) ≡ false
quiet other node before now h = grind (arith, nat_tests)

pub nothing_to_the_quiet : (v : State) (node nodes : ℕ) (memory : List Recalled) →
    ((name : List ℕ) (other : ℕ) → other ≢ node → v.hits name other ≤ seen (recall memory name) other)
    → shifts_of v node nodes memory ≡ []
unfolding shifts_of point_shifts
nothing_to_the_quiet v node nodes memory h =
    none_flat (λ name. point_shifts v node nodes (recall memory name) name)
    (λ name. let recalled = recall memory name in
    let nobody : passers v name recalled node nodes ≡ [] =
    none_passes (λ other. not (other == node) && nat_lt (seen recalled other) (v.hits name other))
    (λ other. quiet other node (seen recalled other) (v.hits name other) (h name other)) (range_with_len 0 nodes) in
    let still = still_now v name recalled node in
    ap (λ others. flat_map (term_shifts v name node still others) (range_with_len 0 max_terms)) nobody
    ∙ none_flat (term_shifts v name node still []) (none_to_nobody v name node still) (range_with_len 0 max_terms))
    v.names
