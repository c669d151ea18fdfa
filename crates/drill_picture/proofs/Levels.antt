-- One node more of a column.
use Rattle.std.proofs.Common.{◌≡◌, ℕ, ◌+◌, List, [], ◌∷◌, ◌++◌, slice_index, ap, ◌∙◌, add-one, append_assoc}
use Rattle.drill_picture.specs.Charts.{below, levels_below, sum_upto}
use Rattle.drill_picture.specs.Rights.{RowTold}

-- all that lies below the next one
pub below_more : (row : RowTold) (node low above : ℕ) → low ≡ below row node →
    above ≡ sum_upto (sum_upto low (slice_index row.held node)) (slice_index row.way node) → above ≡ below row (node + 1)
below_more row node low above h e =
    rw add-one (e ∙ ap (λ l. sum_upto (sum_upto l (slice_index row.held node)) (slice_index row.way node)) h)

-- the heights of its levels
pub levels_more : (row : RowTold) (node low held above : ℕ) (levels mid new : List ℕ) → low ≡ below row node →
    levels ≡ levels_below row node → held ≡ sum_upto low (slice_index row.held node)
    → above ≡ sum_upto (sum_upto low (slice_index row.held node)) (slice_index row.way node)
    → mid ≡ levels ++ held ∷ [] → new ≡ mid ++ above ∷ [] → new ≡ levels_below row (node + 1)
levels_more row node low held above levels mid new h l s e first next =
    let sums : ℕ → List ℕ = λ low. sum_upto low (slice_index row.held node)
    ∷ (sum_upto (sum_upto low (slice_index row.held node)) (slice_index row.way node) ∷ []) in
    rw add-one (next ∙ ap (λ xs. xs ++ above ∷ []) first ∙ append_assoc levels (held ∷ []) (above ∷ [])
    ∙ ap (λ xs. xs ++ (held ∷ (above ∷ []))) l ∙ ap (λ x. levels_below row node ++ (x ∷ (above ∷ []))) s
    ∙ ap (λ x. levels_below row node ++ (sum_upto low (slice_index row.held node) ∷ (x ∷ []))) e
    ∙ ap (λ low. levels_below row node ++ sums low) h)
