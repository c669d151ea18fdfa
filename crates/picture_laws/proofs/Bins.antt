-- The story behind so many columns of a picture is that of the calls which stand in them, one after the other.
use Rattle.std.proofs.Common.{◌≡◌, ◌≢◌, ◌⊎◌, inl, inr, ℕ, zero, suc, ◌/◌, ◌<◌, ◌≤◌, ◌==◌, cond, Bool, true, false, List, [], ◌∷◌, ◌++◌, length, map, filter, fold, nat_lt, refl, sym, ◌∙◌, ap, subst, arith, append_assoc, append-nil, le_trans, div-mul-le_self}
use mathlib.Core.List.{reverse_aux}
use Rattle.std.proofs.lemmas.Nat.{le-div}
use Rattle.std.proofs.lemmas.Bool.Decides.{leb_tells, eqb_tells}
use Rattle.audit.specs.Places.{IsRun}
use Rattle.drill_picture.specs.declared.place.Place.{Place}
use Rattle.drill_picture.specs.Budgets.{BudgetTold}
use Rattle.drill_picture.specs.Calls.{Traces, call_at}
use Rattle.drill_picture.specs.Placing.{column_of, columns_of}
use Rattle.drill_picture.specs.Scale.{ScaleTold, bin_of}
use Rattle.drill_picture.specs.Stories.{StoryTold, first_story, after_call_at, message_nodes, after_place, after_bin, story_behind}
use Rattle.picture_laws.proofs.Columns.{pair, placed, columns_run, AllIn, IsAt, IsBelow, column_at, columns_below}

-- ---- quotients

div_mono : (a k step : ℕ) → a ≤ k → 1 ≤ step → a / step ≤ k / step
div_mono a k step le some = le-div (a / step) k step (omega (arith, some)) (le_trans (div-mul-le_self a step) le)

-- ---- the story of places, one after the other

module _ (traces : Traces) where
  abbrev pub after_one : BudgetTold → StoryTold → Place → StoryTold
  after_one b s p = after_call_at b (message_nodes traces) p.node (call_at traces p.node p.index) s

  fold_append : (b : BudgetTold) (xs ys : List Place) (s : StoryTold) →
      fold (after_one b) s (xs ++ ys) ≡ fold (after_one b) (fold (after_one b) s xs) ys
  fold_append b [] ys s = refl
  fold_append b (p ∷ xs) ys s = fold_append b xs ys (after_one b s p)

  -- ---- from the last place on

  abbrev pub story_of : BudgetTold → List (ℕ × ℕ) → StoryTold
  story_of b [] = first_story (length traces)
  story_of b (place ∷ earlier) =
      after_call_at b (message_nodes traces) place.0 (call_at traces place.0 place.1) (story_of b earlier)

  pub story_placed : (b : BudgetTold) (places : List Place) (earlier : List (ℕ × ℕ)) →
      fold (after_one b) (story_of b earlier) places ≡ story_of b (reverse_aux (map pair places) earlier)
  story_placed b [] earlier = refl
  story_placed b (p ∷ places) earlier = story_placed b places (pair p ∷ earlier)

-- ---- which places stand in the first columns

module _ (scale : ScaleTold) (some : 1 ≤ scale.step) where
  abbrev pub is_before : ℕ → Place → Bool
  is_before bin p = nat_lt (bin_of scale p.column) bin

  abbrev is_in : ℕ → Place → Bool
  is_in bin p = bin_of scale p.column == bin

  filter_append : (t : Place → Bool) (a b : List Place) → filter t (a ++ b) ≡ filter t a ++ filter t b
  filter_append t [] b = refl
  filter_append t (p ∷ a) b = at (filter_append t a b) (t p)
    where
      at : filter t (a ++ b) ≡ filter t a ++ filter t b → (s : Bool) →
          cond s (p ∷ filter t (a ++ b)) (filter t (a ++ b)) ≡ cond s (p ∷ filter t a) (filter t a) ++ filter t b
      at rest true = ap (λ l. p ∷ l) rest
      at rest false = rest

  all_pass : (P : Place → Type 0) (t : Place → Bool) (a : List Place) → AllIn P a → ((p : Place) → P p → t p ≡ true) →
      filter t a ≡ a
  all_pass P t [] all each = refl
  all_pass P t (p ∷ a) all each = ap (λ s. cond s (p ∷ filter t a) (filter t a)) (each p all.0) ∙
      ap (λ l. p ∷ l) (all_pass P t a all.1 each)

  none_passes : (P : Place → Type 0) (t : Place → Bool) (a : List Place) → AllIn P a → ((p : Place) → P p → t p ≡ false) →
      filter t a ≡ []
  none_passes P t [] all each = refl
  none_passes P t (p ∷ a) all each = ap (λ s. cond s (p ∷ filter t a) (filter t a)) (each p all.0) ∙
      none_passes P t a all.1 each

  lower : (x y : ℕ) → x < y → nat_lt x y ≡ true
  lower x y l = elim (leb_tells (suc x) y) [
    | inl w ↦ w.0
    | inr w ↦ (let not_ = w.1 in absurd (omega (arith, not_, l)))
  ]

  not_lower : (x y : ℕ) → y ≤ x → nat_lt x y ≡ false
  not_lower x y l = elim (leb_tells (suc x) y) [
    | inl w ↦ (let less = w.1 in absurd (omega (arith, less, l)))
    | inr w ↦ w.0
  ]

  apart : (x y : ℕ) → x ≢ y → (x == y) ≡ false
  apart x y ne = elim (eqb_tells x y) [
    | inl w ↦ absurd (ne w.1)
    | inr w ↦ w.0
  ]

  alike : (x y : ℕ) → x ≡ y → (x == y) ≡ true
  alike x y e = elim (eqb_tells x y) [
    | inl w ↦ w.0
    | inr w ↦ absurd (w.1 e)
  ]

  bin_at : (p : Place) (column : ℕ) → p.column ≡ column → bin_of scale p.column ≡ bin_of scale column
  bin_at p column is = ap (bin_of scale) is

  bin_below : (p : Place) (column : ℕ) → p.column < column → bin_of scale p.column ≤ bin_of scale column
  bin_below p column low = div_mono p.column column scale.step (omega (arith, low)) some

  -- ---- those of one bin more

  two_parts : (a b d f : List Place) → (b ≡ []) ⊎ (d ≡ []) → (a ++ b) ++ (d ++ f) ≡ (a ++ d) ++ (b ++ f)
  two_parts a b d f (inl e) =
      ap (λ l. (a ++ l) ++ (d ++ f)) e ∙ ap (λ l. l ++ (d ++ f)) (append-nil a) ∙ sym (append_assoc a d f)
      ∙ ap (λ l. (a ++ d) ++ (l ++ f)) (sym e)
  two_parts a b d f (inr e) =
      ap (λ l. (a ++ b) ++ (l ++ f)) e ∙ append_assoc a b f ∙ ap (λ l. l ++ (b ++ f)) (sym (append-nil a))
      ∙ ap (λ l. (a ++ l) ++ (b ++ f)) (sym e)

  module _ (traces : Traces) where
    -- of a column of calls all stand in one bin
    one_column : (places : List Place) (column bin : ℕ) →
        filter (is_before (suc bin)) (column_of traces places column)
        ≡ filter (is_before bin) (column_of traces places column) ++ filter (is_in bin) (column_of traces places column)
    one_column places column bin = elim (leb_tells (suc (bin_of scale column)) bin) [
      | inl w ↦
          let low = w.1 in
          all_pass (IsAt column) (is_before (suc bin)) col all (λ p is.
          let at = bin_at p column is in lower _ _ (omega (arith, at, low)))
          ∙ sym (append-nil col)
          ∙ (λ r. sym (all_pass (IsAt column) (is_before bin) col all (λ p is.
          let at = bin_at p column is in lower _ _ (omega (arith, at, low)))) r
          ++ sym (none_passes (IsAt column) (is_in bin) col all (λ p is.
          let at = bin_at p column is in apart _ _ (λ e. absurd (omega (arith, at, low, e))))) r)
      | inr v ↦ (elim (eqb_tells (bin_of scale column) bin) [
        | inl w ↦
            let same = w.1 in
            all_pass (IsAt column) (is_before (suc bin)) col all (λ p is.
            let at = bin_at p column is in lower _ _ (omega (arith, at, same)))
            ∙ (λ r. sym (none_passes (IsAt column) (is_before bin) col all (λ p is.
            let at = bin_at p column is in not_lower _ _ (omega (arith, at, same)))) r
            ++ sym (all_pass (IsAt column) (is_in bin) col all (λ p is.
            let at = bin_at p column is in alike _ _ (omega (arith, at, same)))) r)
        | inr w ↦
            let high = v.1 in
            let ne = w.1 in
            let above : bin < bin_of scale column = omega (arith, high, ne) in
            none_passes (IsAt column) (is_before (suc bin)) col all (λ p is.
            let at = bin_at p column is in not_lower _ _ (omega (arith, at, above)))
            ∙ (λ r. sym (none_passes (IsAt column) (is_before bin) col all (λ p is.
            let at = bin_at p column is in not_lower _ _ (omega (arith, at, above)))) r
            ++ sym (none_passes (IsAt column) (is_in bin) col all (λ p is.
            let at = bin_at p column is in apart _ _ (λ e. absurd (omega (arith, at, above, e))))) r)
      ])
    ]
      where
        col : List Place
        col = column_of traces places column

        all : AllIn (IsAt column) col
        all = column_at traces places column

    pub one_bin_more : (columns bin : ℕ) →
        filter (is_before (suc bin)) (columns_of traces columns)
        ≡ filter (is_before bin) (columns_of traces columns) ++ filter (is_in bin) (columns_of traces columns)
    one_bin_more zero bin = refl
    one_bin_more (suc column) bin =
        filter_append (is_before (suc bin)) (columns_of traces column) col
        ∙ (λ r. one_bin_more column bin r ++ one_column (columns_of traces column) column bin r)
        ∙ two_parts (filter (is_before bin) (columns_of traces column)) (filter (is_in bin) (columns_of traces column))
        (filter (is_before bin) col) (filter (is_in bin) col) which
        ∙ (λ r. sym (filter_append (is_before bin) (columns_of traces column) col) r
        ++ sym (filter_append (is_in bin) (columns_of traces column) col) r)
      where
        col : List Place
        col = column_of traces (columns_of traces column) column

        which : (filter (is_in bin) (columns_of traces column) ≡ []) ⊎ (filter (is_before bin) col ≡ [])
        which = elim (leb_tells (suc (bin_of scale column)) bin) [
          | inl w ↦ inl (none_passes (IsBelow column) (is_in bin) (columns_of traces column) (columns_below traces column)
              (λ p low. let at = bin_below p column low in let less = w.1 in
              apart _ _ (λ e. absurd (omega (arith, at, less, e)))))
          | inr w ↦ inr (none_passes (IsAt column) (is_before bin) col (column_at traces (columns_of traces column) column)
              (λ p is. let at = bin_at p column is in let high = w.1 in not_lower _ _ (omega (arith, at, high))))
        ]

    -- ---- they are a run

    pub first_run : (columns bin : ℕ) → IsRun traces (placed (filter (is_before bin) (columns_of traces columns)))
    first_run zero bin = tt
    first_run (suc column) bin = elim (leb_tells (suc (bin_of scale column)) bin) [
      | inl w ↦
          let low = w.1 in
          subst (λ ps. IsRun traces (placed ps))
          (sym (filter_append (is_before bin) (columns_of traces column) col
          ∙ (λ r. all_pass (IsBelow column) (is_before bin) (columns_of traces column) (columns_below traces column)
          (λ p less. let at = bin_below p column less in lower _ _ (omega (arith, at, low))) r
          ++ all_pass (IsAt column) (is_before bin) col all (λ p is.
          let at = bin_at p column is in lower _ _ (omega (arith, at, low))) r)))
          (columns_run traces (suc column)).run
      | inr w ↦
          let high = w.1 in
          subst (λ ps. IsRun traces (placed ps))
          (sym (filter_append (is_before bin) (columns_of traces column) col
          ∙ ap (λ l. filter (is_before bin) (columns_of traces column) ++ l)
          (none_passes (IsAt column) (is_before bin) col all (λ p is.
          let at = bin_at p column is in not_lower _ _ (omega (arith, at, high))))
          ∙ append-nil (filter (is_before bin) (columns_of traces column))))
          (first_run column bin)
    ]
      where
        col : List Place
        col = column_of traces (columns_of traces column) column

        all : AllIn (IsAt column) col
        all = column_at traces (columns_of traces column) column

    -- ---- the story

    after_those : (b : BudgetTold) (bin : ℕ) (places : List Place) (s : StoryTold) →
        fold (after_place traces scale b bin) s places ≡ fold (after_one traces b) s (filter (is_in bin) places)
    unfolding after_place
    after_those b bin [] s = refl
    after_those b bin (p ∷ places) s = at (after_those b bin places) (bin_of scale p.column == bin)
      where
        at : ((u : StoryTold) → fold (after_place traces scale b bin) u places ≡ fold (after_one traces b) u (filter (is_in bin) places)) →
            (t : Bool) → fold (after_place traces scale b bin) (cond t (after_one traces b s p) s) places
            ≡ fold (after_one traces b) s (cond t (p ∷ filter (is_in bin) places) (filter (is_in bin) places))
        at rest true = rest (after_one traces b s p)
        at rest false = rest s

    none_before : (places : List Place) → filter (is_before 0) places ≡ []
    none_before [] = refl
    none_before (p ∷ places) = ap (λ s. cond s (p ∷ filter (is_before 0) places) (filter (is_before 0) places))
        (not_lower (bin_of scale p.column) 0 (omega arith)) ∙ none_before places

    pub story_is : (columns : ℕ) (b : BudgetTold) (bin : ℕ) →
        story_behind traces scale (columns_of traces columns) b bin
        ≡ fold (after_one traces b) (first_story (length traces)) (filter (is_before bin) (columns_of traces columns))
    unfolding after_bin
    story_is columns b zero =
        ap (fold (after_one traces b) (first_story (length traces))) (sym (none_before (columns_of traces columns)))
    story_is columns b (suc bin) =
        ap (λ s. fold (after_place traces scale b bin) s (columns_of traces columns)) (story_is columns b bin)
        ∙ after_those b bin (columns_of traces columns)
        (fold (after_one traces b) (first_story (length traces)) (filter (is_before bin) (columns_of traces columns)))
        ∙ sym (fold_append traces b (filter (is_before bin) (columns_of traces columns))
        (filter (is_in bin) (columns_of traces columns)) (first_story (length traces)))
        ∙ ap (fold (after_one traces b) (first_story (length traces))) (sym (one_bin_more columns bin))
