-- What is kept stands for the same calls where rows or entries are put behind.
use Rattle.std.proofs.Common.{◌≡◌, ℕ, ◌<◌, ◌≤◌, ◌+◌, ◌/◌, ◌%◌, ◌^◌, zero, suc, arith, List, [], ◌∷◌, ◌++◌, length, length-append, take, map, refl, sym, ◌∙◌, ap, subst, Some, None}
use Rattle.std.specs.Prelude.{slice_get, slice_index_or}
use Rattle.std.proofs.lemmas.List.{length-map, map-append}
use Rattle.std.proofs.lemmas.List.Elements.{All-push}
use Rattle.node_calls.specs.Told.{Told, told}
use Rattle.node_calls.specs.declared.trace.Entry.{Entry}
use Rattle.packed_trace.specs.declared.row.Row.{Row}
use Rattle.packed_trace.specs.declared.trace.Slot.{Slot}
use Rattle.packed_trace.specs.declared.trace.Slot.TheVariants as slots
use Rattle.packed_trace.specs.Packed.{AreKept, IsKept, entry_by, entry_number, entry_slot, pass_by, row_told, told_by}

pub get_before : {A : Type 0} (xs : List A) (y : A) (i : ℕ) → i < length xs → slice_get (xs ++ y ∷ []) i ≡ slice_get xs i
get_before [] y i low = absurd (omega (arith, low))
get_before (x ∷ xs) y zero low = refl
get_before (x ∷ xs) y (suc i) low = get_before xs y i (omega (arith, low))

pub get_last : {A : Type 0} (xs : List A) (y : A) → slice_get (xs ++ y ∷ []) (length xs) ≡ Some y
get_last [] y = refl
get_last (x ∷ xs) y = get_last xs y

-- what is kept with a row more
pub kept_more : (rows more entries : ℕ) (kept : List Slot) → rows ≤ more → AreKept rows entries kept →
    AreKept more entries kept
kept_more rows more entries kept le is = λ k d low. one (slice_index_or kept k d) (is k d low)
  where
    one : (slot : Slot) → IsKept rows entries slot → IsKept more entries slot
    one (slots.NoTerm row) h = omega (arith, le, h)
    one (slots.Term term row) h = omega (arith, le, h)
    one (slots.NoTermDrawn row word) h = omega (arith, le, h)
    one (slots.TermDrawn term row word) h = omega (arith, le, h)
    one (slots.Entry high middle low) h = h

-- the number of an entry again, by the parts that its slot has
number_again : (n : ℕ) → entry_number (n / 2 ^ 48) (n / 2 ^ 32 % 2 ^ 16) (n % 2 ^ 32) ≡ n
number_again n = omega arith

-- what is kept with an entry more, which comes last
pub kept_with_entry : (rows entries : ℕ) (kept : List Slot) → AreKept rows entries kept →
    AreKept rows (entries + 1) (kept ++ entry_slot entries ∷ [])
kept_with_entry rows entries kept is =
    let last = number_again entries in
    All-push (IsKept rows (entries + 1)) kept (entry_slot entries)
    (λ k d low. one (slice_index_or kept k d) (is k d low)) (omega (arith, last))
  where
    one : (slot : Slot) → IsKept rows entries slot → IsKept rows (entries + 1) slot
    one (slots.NoTerm row) h = h
    one (slots.Term term row) h = h
    one (slots.NoTermDrawn row word) h = h
    one (slots.TermDrawn term row word) h = h
    one (slots.Entry high middle low) h = omega (arith, h)

-- functions that agree on what is kept
map_kept : (rows entries : ℕ) (f g : Slot → Told) (kept : List Slot) → AreKept rows entries kept →
    ((slot : Slot) → IsKept rows entries slot → f slot ≡ g slot) → map f kept ≡ map g kept
map_kept rows entries f g [] is same = refl
map_kept rows entries f g (slot ∷ kept) is same =
    let here = same slot (is 0 slot (omega arith)) in
    let rest = map_kept rows entries f g kept (λ k d low. is (suc k) d (omega (arith, low))) same in
    cc

module _ (rows : List Row) (entries : List Entry) where
  abbrev before : Slot → Told
  before = told_by (map row_told rows) (map told entries)

  abbrev with_row : Row → Slot → Told
  with_row row = told_by (map row_told (rows ++ row ∷ [])) (map told entries)

  row_found : (row : Row) (at : ℕ) → at < length rows →
      slice_get (map row_told (rows ++ row ∷ [])) at ≡ slice_get (map row_told rows) at
  row_found row at low =
      ap (λ rs. slice_get rs at) (map-append row_told rows (row ∷ [])) ∙
      get_before (map row_told rows) (row_told row) at (subst (λ n. at < n) (sym (length-map rows row_told)) low)

  row_same : (row : Row) (slot : Slot) → IsKept (length rows) (length entries) slot → with_row row slot ≡ before slot
  row_same row (slots.NoTerm at) is = ap (λ found. pass_by found None None) (row_found row at is)
  row_same row (slots.Term term at) is = ap (λ found. pass_by found (Some term) None) (row_found row at is)
  row_same row (slots.NoTermDrawn at word) is = ap (λ found. pass_by found None (Some word)) (row_found row at is)
  row_same row (slots.TermDrawn term at word) is =
      ap (λ found. pass_by found (Some term) (Some word)) (row_found row at is)
  row_same row (slots.Entry high middle low) is = refl

  pub rows_stay : (row : Row) (kept : List Slot) → AreKept (length rows) (length entries) kept →
      map (with_row row) kept ≡ map before kept
  rows_stay row kept is = map_kept (length rows) (length entries) (with_row row) before kept is (row_same row)

  abbrev with_entry : Entry → Slot → Told
  with_entry entry = told_by (map row_told rows) (map told (entries ++ entry ∷ []))

  entry_same : (entry : Entry) (slot : Slot) → IsKept (length rows) (length entries) slot →
      with_entry entry slot ≡ before slot
  entry_same entry (slots.NoTerm at) is = refl
  entry_same entry (slots.Term term at) is = refl
  entry_same entry (slots.NoTermDrawn at word) is = refl
  entry_same entry (slots.TermDrawn term at word) is = refl
  entry_same entry (slots.Entry high middle low) is =
      let number = entry_number high middle low in
      ap entry_by
      (ap (λ es. slice_get es number) (map-append told entries (entry ∷ [])) ∙
      get_before (map told entries) (told entry) number (subst (λ n. number < n) (sym (length-map entries told)) is))

  pub entry_comes : (entry : Entry) (kept : List Slot) → AreKept (length rows) (length entries) kept →
      map (with_entry entry) (kept ++ entry_slot (length entries) ∷ []) ≡ map before kept ++ told entry ∷ []
  entry_comes entry kept is =
      let old = map_kept (length rows) (length entries) (with_entry entry) before kept is (entry_same entry) in
      let found : slice_get (map told (entries ++ entry ∷ [])) (length entries) ≡ Some (told entry) =
      ap (λ es. slice_get es (length entries)) (map-append told entries (entry ∷ [])) ∙
      subst (λ n. slice_get (map told entries ++ told entry ∷ []) n ≡ Some (told entry))
      (length-map entries told) (get_last (map told entries) (told entry)) in
      let last = number_again (length entries) in
      map-append (with_entry entry) kept (entry_slot (length entries) ∷ []) ∙
      ap (λ xs. xs ++ with_entry entry (entry_slot (length entries)) ∷ []) old ∙
      ap (λ n. map before kept ++ entry_by (slice_get (map told (entries ++ entry ∷ [])) n) ∷ []) last ∙
      ap (λ o. map before kept ++ entry_by o ∷ []) found

-- so many first ones, and the next one
pub taken_one : {A : Type 0} (xs : List A) (n : ℕ) (x : A) → slice_get xs n ≡ Some x →
    (take (suc n) xs ≡ take n xs ++ x ∷ []) × (n < length xs)
taken_one [] n x is = absurd cc
taken_one (y ∷ ys) zero x is = let same : y ≡ x = cc in (ap (λ z. z ∷ []) same, omega arith)
taken_one (y ∷ ys) (suc n) x is = let rest = taken_one ys n x is in (ap (λ zs. y ∷ zs) rest.0, omega (arith, rest.1))

-- where there is no next one, these are all
pub taken_all : {A : Type 0} (xs : List A) (n : ℕ) → slice_get xs n ≡ None → take n xs ≡ xs
taken_all [] zero is = refl
taken_all [] (suc n) is = refl
taken_all (y ∷ ys) zero is = absurd cc
taken_all (y ∷ ys) (suc n) is = ap (λ zs. y ∷ zs) (taken_all ys n is)

-- entries that tell the first calls, with one that tells the next
pub one_more : (calls : List Told) (entries : List Entry) (e : Entry) (n : ℕ) → n ≡ length entries →
    map told entries ≡ take (length entries) calls → slice_get calls n ≡ Some (told e) →
    (map told (entries ++ e ∷ []) ≡ take (length (entries ++ e ∷ [])) calls) ×
    (length (entries ++ e ∷ []) ≤ length calls)
one_more calls entries e n at so_far next =
    let one = taken_one calls (length entries) (told e) (subst (λ k. slice_get calls k ≡ Some (told e)) at next) in
    let long : length (entries ++ e ∷ []) ≡ suc (length entries) =
    length-append entries (e ∷ []) ∙ plus_one (length entries) in
    let few = one.1 in (
      map-append told entries (e ∷ []) ∙ ap (λ xs. xs ++ told e ∷ []) so_far ∙ sym one.0 ∙
          ap (λ k. take k calls) (sym long),
      omega (arith, few, long),
    )
  where
    plus_one : (k : ℕ) → k + 1 ≡ suc k
    plus_one k = omega arith
