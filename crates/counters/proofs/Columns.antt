-- What each entry of a map adds to the sums by place.
use Rattle.std.specs.Prelude.{◌≡◌, ◌≢◌, ◌<◌, ◌≤◌, ◌+◌, ◌*◌, ◌^◌, ◌==◌, ℕ, Bool, true, false, not, IsTrue, cond, List, [], ◌∷◌, length, get_or, slice_index, slice_set, map, ℤ, pos, int_le, ◌+ℤ◌, ◌-ℤ◌, ◌≤ℤ◌, ◌<ℤ◌}
use Rattle.std.specs.List.{range_with_len}
use Rattle.std.proofs.Common.{ap, arith, refl, subst, sym, ◌∙◌, ⊎_elim}
use Rattle.std.proofs.Math.ListN.{length-set}
use Rattle.std.proofs.lemmas.Bool.{cases_eq, cases_lt, true≢false}
use Rattle.std.proofs.lemmas.Int.{ints}
use Rattle.std.proofs.lemmas.List.{get_or-set_same, get_or-set_other, get_or_past}
use Rattle.std.proofs.lemmas.List.FromFn.{fill_by_all, get_or-map-range_with_len, length-map-range_with_len}
use mir.Syntax.{w128}
use mir.Val.{SFits, of_z, to_z}
use Rattle.counters.specs.Sums.{node_numbers, sum_others, AddsEach, AreWithin}
use Rattle.counters.specs.Budgets.{rights}
use Rattle.counters.specs.Cells.{Cells, Rows, Shares, balance_of, cell, row_cell, came_to, went_from, budget_of}
use Rattle.counters.proofs.EntrySums.{counts-entry, sum-entry}
use Rattle.counters.proofs.CellLemmas.{AreApart, below-numbers, chosen-other, chosen-same, total_of_others-empty}
use Rattle.counters.proofs.SumLemmas.{sum_others-and}

-- what came to a node with a row more, and what went from it
pub came-entry : (k : ℕ) (v : Cells) (rest : Rows) → k < 256 → AreApart ((k, v) ∷ rest) → (i : ℕ) →
    came_to ((k, v) ∷ rest) i ≡ cell v i + came_to rest i
unfolding cell row_cell
came-entry k v rest below apart i = sum-entry [] node_numbers (λ q (held : Cells). cell held i) (λ q. refl) k v rest
    (below-numbers k below) apart

pub went-entry : (k : ℕ) (v : Cells) (rest : Rows) → AreApart ((k, v) ∷ rest) → (i : ℕ) →
    went_from ((k, v) ∷ rest) i ≡ cond (i == k) (sum_others node_numbers k (cell v)) 0 + went_from rest i
unfolding row_cell
went-entry k v rest apart i = counts-entry [] (λ q (held : Cells). sum_others node_numbers q (cell held))
    (λ q. total_of_others-empty q) k v rest apart i

-- what is less than 0 by the numbers before a place, where 0 is left from there on
pub record NegatedBelow (numbers : List ℕ) (n : ℕ) (sums : List ℤ) (place : ℕ) : Type 0 where
  pub len : length sums ≡ n
  pub read : (i : ℕ) → i < place → get_or sums i (pos 0) ≡ pos 0 -ℤ pos (slice_index numbers i)
  pub small : (i : ℕ) → i < place → (pos 0 ≤ℤ (get_or sums i (pos 0) +ℤ pos (2 ^ 99))) × (get_or sums i (pos 0) ≤ℤ pos (2 ^ 99))
  pub left : (i : ℕ) → place ≤ i → i < length sums → get_or sums i (pos 0) ≡ pos 0

pub place-negated : (numbers : List ℕ) (n : ℕ) (sums : List ℤ) (place : ℕ) (x : ℤ) → place < length sums →
    x ≡ pos 0 -ℤ pos (slice_index numbers place) → slice_index numbers place < 2 ^ 64 →
    NegatedBelow numbers n sums place → NegatedBelow numbers n (slice_set sums place x) (place + 1)
place-negated numbers n sums place x inside is fits h =
    let here : get_or (slice_set sums place x) place (pos 0) ≡ x = get_or-set_same sums place x (pos 0) inside in
    record {
      len = length-set sums place x ∙ h.len;
      read = λ i low. ⊎_elim
          (λ same. subst (λ j. get_or (slice_set sums place x) j (pos 0) ≡ pos 0 -ℤ pos (slice_index numbers j)) (sym same)
          (here ∙ is))
          (λ ne. get_or-set_other sums place i x (pos 0) ne ∙ h.read i (omega (arith, ne, low)))
          (cases_eq i place);
      small = λ i low. ⊎_elim
          (λ same.
          let at : get_or (slice_set sums place x) i (pos 0) ≡ x =
          ap (λ j. get_or (slice_set sums place x) j (pos 0)) same ∙ here in
          (omega (arith, ints), omega (arith, ints)))
          (λ ne.
          let at : get_or (slice_set sums place x) i (pos 0) ≡ get_or sums i (pos 0) =
          get_or-set_other sums place i x (pos 0) ne in
          let before = h.small i (omega (arith, ne, low)) in
          let from = before.0 in
          let upto = before.1 in
          (omega (arith, ints), omega (arith, ints)))
          (cases_eq i place);
      left = λ i high low. get_or-set_other sums place i x (pos 0) (λ same. omega (arith, same, high))
          ∙ h.left i (omega arith) (omega (arith, low, length-set sums place x));
    }

-- what was added at one place more
pub record AddedBelow (row : ℕ → ℕ) (old new : List ℤ) (place : ℕ) : Type 0 where
  pub len : length new ≡ length old
  pub done : (i : ℕ) → i < place → get_or new i (pos 0) ≡ get_or old i (pos 0) +ℤ pos (row i)
  pub left : (i : ℕ) → place ≤ i → get_or new i (pos 0) ≡ get_or old i (pos 0)
  pub few : (i : ℕ) → i < place → row i < 2 ^ 64

pub place-added : (row : ℕ → ℕ) (old new : List ℤ) (place : ℕ) (x : ℤ) → place < length new →
    x ≡ get_or new place (pos 0) +ℤ pos (row place) → row place < 2 ^ 64 → AddedBelow row old new place →
    AddedBelow row old (slice_set new place x) (place + 1)
place-added row old new place x inside is fits h = record {
  len = length-set new place x ∙ h.len;
  done = λ i low. ⊎_elim
      (λ same.
      let written : get_or (slice_set new place x) i (pos 0) ≡ x =
      ap (λ j. get_or (slice_set new place x) j (pos 0)) same ∙ get_or-set_same new place x (pos 0) inside in
      let was : get_or new i (pos 0) ≡ get_or new place (pos 0) = ap (λ j. get_or new j (pos 0)) same in
      let here : row i ≡ row place = ap row same in
      let kept = h.left i (omega (arith, same)) in
      omega (arith, ints))
      (λ ne.
      let written : get_or (slice_set new place x) i (pos 0) ≡ get_or new i (pos 0) =
      get_or-set_other new place i x (pos 0) ne in
      let kept = h.done i (omega (arith, ne, low)) in
      omega (arith, ints))
      (cases_eq i place);
  left = λ i high. get_or-set_other new place i x (pos 0) (λ same. omega (arith, same, high)) ∙ h.left i (omega arith);
  few = λ i low. ⊎_elim (λ same. subst (λ j. row j < 2 ^ 64) (sym same) fits) (λ ne. h.few i (omega (arith, ne, low)))
      (cases_eq i place);
}

-- where what is left is 0, all is added
pub all-added : (row : ℕ → ℕ) (old new : List ℤ) (place : ℕ)
    → ((i : ℕ) → place ≤ i → i < length old → row i ≡ 0) → AddedBelow row old new place
    → AddsEach (λ i. pos (row i)) old new
all-added row old new place none h = record {
  len = h.len;
  each = λ i low. ⊎_elim (λ before. h.done i before)
      (λ past. let kept = h.left i past in let zero = none i past low in omega (arith, ints))
      (cases_lt i place);
}

-- sums are within a bound where those are that have a place
pub within-places : (bound : ℕ) (sums : List ℤ) →
    ((i : ℕ) → i < length sums → (pos 0 ≤ℤ (get_or sums i (pos 0) +ℤ pos bound)) × (get_or sums i (pos 0) ≤ℤ pos bound)) →
    AreWithin bound sums
within-places bound sums h i = ⊎_elim (λ low. h i low)
    (λ past. let none = get_or_past sums i (pos 0) past in (omega (arith, ints), omega (arith, ints)))
    (cases_lt i (length sums))

-- ---- what is added fits

pub added-fits : (was x : ℤ) (v : ℕ) → x ≡ pos v → v < 2 ^ 64 → pos 0 ≤ℤ (was +ℤ pos (2 ^ 101)) → was ≤ℤ pos (2 ^ 101) →
    SFits w128 (to_z w128 (of_z w128 was) +ℤ to_z w128 (of_z w128 x))
added-fits was x v is small low high = omega (arith, ints)

pub added-is : (was x : ℤ) (v : ℕ) → x ≡ pos v → v < 2 ^ 64 → pos 0 ≤ℤ (was +ℤ pos (2 ^ 101)) → was ≤ℤ pos (2 ^ 101) →
    to_z w128 (of_z w128 (to_z w128 (of_z w128 was) +ℤ to_z w128 (of_z w128 x))) ≡ was +ℤ pos v
added-is was x v is small low high = omega (arith, ints)

pub taken-from-none : (was x : ℤ) (v : ℕ) → was ≡ pos 0 → x ≡ pos v → v < 2 ^ 64 →
    to_z w128 (of_z w128 (to_z w128 (of_z w128 was) -ℤ to_z w128 (of_z w128 x))) ≡ pos 0 -ℤ pos v
taken-from-none was x v none is small = omega (arith, ints)

pub others-taken : (was : ℤ) (n others : ℕ) → n ≡ others → n ≤ 256 * 2 ^ 64 → pos 0 ≤ℤ (was +ℤ pos (2 ^ 101)) →
    was ≤ℤ pos (2 ^ 101) →
    to_z w128 (of_z w128 (to_z w128 (of_z w128 was) -ℤ to_z w128 n)) ≡ was -ℤ pos others
others-taken was n others is small low high = omega (arith, ints)

-- the sums so far, by what is known of all rows
pub bounds-rows : (start was : ℤ) (came came_all went went_all : ℕ) →
    was +ℤ (pos came -ℤ pos went) ≡ start +ℤ (pos came_all -ℤ pos went_all) → came ≤ came_all → went ≤ went_all →
    came_all ≤ 256 * 2 ^ 64 → went_all ≤ 256 * 2 ^ 64 →
    pos 0 ≤ℤ (start +ℤ pos (2 ^ 99)) → start ≤ℤ pos (2 ^ 99) →
    (pos 0 ≤ℤ (was +ℤ pos (2 ^ 100))) × (was ≤ℤ pos (2 ^ 100))
bounds-rows start was came came_all went went_all sum a b c d low high = (omega (arith, ints), omega (arith, ints))

-- a row whose node has a place
pub row-written : (row : ℕ → ℕ) (old new : List ℤ) (node others : ℕ) (x : ℤ) → node < length new →
    AddsEach (λ i. pos (row i)) old new → x ≡ get_or new node (pos 0) -ℤ pos others →
    AddsEach (λ i. pos (row i) -ℤ pos (cond (i == node) others 0)) old (slice_set new node x)
row-written row old new node others x inside adds is = record {
  len = length-set new node x ∙ adds.len;
  each = λ i low. ⊎_elim
      (λ same.
      let written : get_or (slice_set new node x) i (pos 0) ≡ x =
      ap (λ j. get_or (slice_set new node x) j (pos 0)) same ∙ get_or-set_same new node x (pos 0) inside in
      let was : get_or new i (pos 0) ≡ get_or new node (pos 0) = ap (λ j. get_or new j (pos 0)) same in
      let each = adds.each i low in
      let out = chosen-same i node others 0 same in
      omega (arith, ints))
      (λ ne.
      let written : get_or (slice_set new node x) i (pos 0) ≡ get_or new i (pos 0) =
      get_or-set_other new node i x (pos 0) ne in
      let each = adds.each i low in
      let out = chosen-other i node others 0 ne in
      omega (arith, ints))
      (cases_eq i node);
}

pub row-placeless : (row : ℕ → ℕ) (old new : List ℤ) (node others : ℕ) → length new ≤ node →
    AddsEach (λ i. pos (row i)) old new →
    AddsEach (λ i. pos (row i) -ℤ pos (cond (i == node) others 0)) old new
row-placeless row old new node others past adds = record {
  len = adds.len;
  each = λ i low.
      let each = adds.each i low in
      let long = adds.len in
      let out = chosen-other i node others 0 (λ same. omega (arith, same, low, past, long)) in
      omega (arith, ints);
}

-- ---- rights, by what came, went and was spent

-- what is less than 0 by what was spent, place by place
pub negated-read : (spent : ℕ → ℕ) (sums : List ℤ) (n : ℕ) →
    sums ≡ map (λ node. pos 0 -ℤ pos (spent node)) (range_with_len 0 n) →
    (length sums ≡ n) × ((i : ℕ) → i < n → get_or sums i (pos 0) ≡ pos 0 -ℤ pos (spent i))
negated-read spent sums n is = (
  ap length is ∙ length-map-range_with_len (λ node. pos 0 -ℤ pos (spent node)) 0 n,
  λ i low. ap (λ xs. get_or xs i (pos 0)) is
      ∙ get_or-map-range_with_len (λ node. pos 0 -ℤ pos (spent node)) 0 n i i (pos 0) low (omega arith),
)

pub rights-balance : (shares : Shares) (setter count i : ℕ) → i < 256 →
    balance_of shares i +ℤ pos (cond (i == setter) count 0) ≡ rights (budget_of shares setter count) i
rights-balance shares setter count i low =
    let own = sum_others-and node_numbers i (λ from. row_cell shares.second from i) (below-numbers i low) in
    omega (arith, ints)

-- so those of the others are their balances
pub rights-others : (shares : Shares) (setter count i : ℕ) → i < 256 → i ≢ setter →
    balance_of shares i ≡ rights (budget_of shares setter count) i
rights-others shares setter count i low ne =
    let all = rights-balance shares setter count i low in
    let none = chosen-other i setter count 0 ne in
    omega (arith, ints)

-- so one that isn't short has a right
pub has-right : (shares : Shares) (setter count i : ℕ) (short : Bool) → i < 256 → i ≢ setter →
    int_le (balance_of shares i) (pos 0) ≡ short →
    (IsTrue (not short) → pos 0 <ℤ rights (budget_of shares setter count) i)
    × (pos 0 <ℤ rights (budget_of shares setter count) i → IsTrue (not short))
has-right shares setter count i true low ne is =
    let same = rights-others shares setter count i low ne in
    (λ no. absurd (true≢false (sym no)), λ more. absurd (omega (arith, ints, same, is, more)))
has-right shares setter count i false low ne is =
    let same = rights-others shares setter count i low ne in
    (λ _. omega (arith, ints, same, is), λ _. refl)

-- with the count at the place of the setter, if it has one
pub with-count : (f : ℕ → ℤ) (spent : List ℤ) (setter count n : ℕ) (x : ℤ) → length spent ≡ n → setter < n →
    x ≡ get_or spent setter (pos 0) +ℤ pos count →
    ((i : ℕ) → i < n → get_or spent i (pos 0) +ℤ pos (cond (i == setter) count 0) ≡ f i) →
    slice_set spent setter x ≡ map f (range_with_len 0 n)
with-count f spent setter count n x size inside is h =
    fill_by_all f (slice_set spent setter x) n (pos 0) (length-set spent setter x ∙ size)
    (λ i low. ⊎_elim
    (λ same.
    let written : get_or (slice_set spent setter x) i (pos 0) ≡ x =
    ap (λ j. get_or (slice_set spent setter x) j (pos 0)) same
    ∙ get_or-set_same spent setter x (pos 0) (omega (arith, inside, size)) in
    let was : get_or spent i (pos 0) ≡ get_or spent setter (pos 0) = ap (λ j. get_or spent j (pos 0)) same in
    let own = chosen-same i setter count 0 same in
    let here = h i low in
    omega (arith, ints))
    (λ ne.
    let written : get_or (slice_set spent setter x) i (pos 0) ≡ get_or spent i (pos 0) =
    get_or-set_other spent setter i x (pos 0) ne in
    let own = chosen-other i setter count 0 ne in
    let here = h i low in
    omega (arith, ints))
    (cases_eq i setter))

pub without-count : (f : ℕ → ℤ) (spent : List ℤ) (setter count n : ℕ) → length spent ≡ n → n ≤ setter →
    ((i : ℕ) → i < n → get_or spent i (pos 0) +ℤ pos (cond (i == setter) count 0) ≡ f i) →
    spent ≡ map f (range_with_len 0 n)
without-count f spent setter count n size past h = fill_by_all f spent n (pos 0) size
    (λ i low.
    let own = chosen-other i setter count 0 (λ same. omega (arith, same, low, past)) in
    let here = h i low in
    omega (arith, ints))
