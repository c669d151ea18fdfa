-- One more call stands.
use Rattle.std.proofs.Common.{◌≡◌, inl, inr, ℕ, ◌+◌, ◌<◌, ◌≤◌, ◌==◌, cond, Bool, true, false, List, [], ◌∷◌, ◌++◌, ◌||◌, length, slice_index, slice_set, refl, sym, ◌∙◌, ap, add-one, arith, get_or-set_same, get_or-set_other}
use Rattle.std.proofs.lemmas.Bool.Decides.{eqb_tells}
use Rattle.std.proofs.lemmas.List.Folds.{list_any-append}
use Rattle.std.proofs.lemmas.List.Sums.{sum_by_push}
use Rattle.std.specs.List.{list_any}
use Rattle.drill_picture.specs.declared.place.Place.{Place}
use Rattle.drill_picture.specs.Calls.{Traces, call_at, makes}
use Rattle.drill_picture.specs.Placing.{column_of, columns_of, count_at, is_made}

or_cases : (a b : Bool) → (a || (b || false)) ≡ cond b true a
or_cases true true = refl
or_cases true false = refl
or_cases false true = refl
or_cases false false = refl

pub made_more : (traces : Traces) (places : List Place) (place : Place) (bytes : List ℕ) →
    is_made traces (places ++ place ∷ []) bytes
    ≡ cond (makes bytes (call_at traces place.node place.index)) true (is_made traces places bytes)
unfolding is_made
made_more traces places place bytes =
    let makes_at : Place → Bool = λ p. makes bytes (call_at traces p.node p.index) in
    list_any-append makes_at places (place ∷ []) ∙ or_cases (list_any makes_at places) (makes_at place)

pub count_more : (node : ℕ) (places : List Place) (place : Place) →
    count_at node (places ++ place ∷ []) ≡ count_at node places + cond (place.node == node) 1 0
unfolding count_at
count_more node places place = sum_by_push (λ p. cond (p.node == node) 1 0) places place

-- one more is counted at a node
pub counted_up : (positions : List ℕ) (node before n : ℕ) → node < length positions →
    before ≡ slice_index positions node →
    slice_index (slice_set positions node (before + 1)) n ≡ slice_index positions n + cond (node == n) 1 0
counted_up positions node before n within is =
    elim (eqb_tells node n) [
      | inl w ↦
          let e1 : slice_index (slice_set positions node (before + 1)) node ≡ before + 1 =
          get_or-set_same positions node _ 0 within in
          let e2 : slice_index (slice_set positions node (before + 1)) node ≡ slice_index
          (slice_set positions node (before + 1)) n =
          ap (λ m. slice_index (slice_set positions node (before + 1)) m) w.1 in
          let e3 : slice_index positions node ≡ slice_index positions n = ap (λ m. slice_index positions m) w.1 in
          let e4 : slice_index positions n + cond (node == n) 1 0 ≡ slice_index positions n + 1 =
          ap (λ t. slice_index positions n + cond t 1 0) w.0 in
          omega (arith, e1, e2, e3, e4, is)
      | inr w ↦
          let e1 : slice_index (slice_set positions node (before + 1)) n ≡ slice_index positions n =
          get_or-set_other positions node n _ 0 (λ same. w.1 (sym same)) in
          let e4 : slice_index positions n + cond (node == n) 1 0 ≡ slice_index positions n + 0 =
          ap (λ t. slice_index positions n + cond t 1 0) w.0 in
          omega (arith, e1, e4)
    ]

-- at a node that isn't there nothing is counted
pub counted_nowhere : (positions : List ℕ) (node n : ℕ) → length positions ≤ node → n < length positions →
    slice_index positions n ≡ slice_index positions n + cond (node == n) 1 0
counted_nowhere positions node n past inside =
    elim (eqb_tells node n) [
      | inl w ↦ let same : node ≡ n = w.1 in absurd (omega (arith, same, past, inside))
      | inr w ↦
          let e4 : slice_index positions n + cond (node == n) 1 0 ≡ slice_index positions n + 0 =
          ap (λ t. slice_index positions n + cond t 1 0) w.0 in
          omega (arith, e4)
    ]

-- one column more
pub column_more : (traces : Traces) (column : ℕ) (old stand new : List Place) → old ≡ columns_of traces column →
    stand ≡ column_of traces old column → new ≡ old ++ stand → new ≡ columns_of traces (column + 1)
column_more traces column old stand new before is more =
    rw add-one (more ∙ ap (λ places. places ++ stand) before
    ∙ ap (λ places. columns_of traces column ++ places) (is ∙ ap (λ places. column_of traces places column) before))
