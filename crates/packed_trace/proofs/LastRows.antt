-- The last rows, where a row is put behind.
use Rattle.std.proofs.Common.{◌≡◌, ◌⊎◌, Result, Ok, Err, inl, inr, ⊎_elim, ℕ, ◌<◌, zero, suc, List, [], ◌∷◌, ◌++◌, length, map, cond, true, false, refl, sym, ◌∙◌, ap, subst, Bool, Option, Some, None, arith}
use Rattle.std.specs.Prelude.{bytes_eq, slice_get, IfOk, IfSome}
use Rattle.std.proofs.lemmas.List.{map-append, length-map}
use Rattle.std.proofs.lemmas.Map.Text.{is_eq-slice_cmp}
use Rattle.std.proofs.lemmas.Slice.Eq.{bytes_eq-Decides}
use Rattle.std.proofs.lemmas.Option.{none-some, same_Some, slice_get_within}
use Rattle.std.specs.Ordering.{is_eq, nat_cmp}
use Rattle.std.specs.Cmp.Lexicographic.{slice_cmp}
use Rattle.packed_trace.specs.declared.heads.Heads.{Heads}
use Rattle.packed_trace.specs.declared.row.Row.{Row}
use Rattle.packed_trace.specs.Heads.{AreHeads, IsLastAt, head_of}
use Rattle.packed_trace.specs.Packed.{RowTold, row_told}
use Rattle.packed_trace.proofs.Stays.{get_before, get_last}

pub same_name : (name other : List ℕ) → bytes_eq name other ≡ is_eq (slice_cmp nat_cmp name other)
same_name name other = sym (is_eq-slice_cmp name other)

-- a place of the rows is one of those before, or that of the row more
before_or_last : (rows : List RowTold) (row last : RowTold) (at : ℕ) →
    slice_get (rows ++ row ∷ []) at ≡ Some last →
    ((at < length rows) × (slice_get rows at ≡ Some last)) ⊎ ((at ≡ length rows) × (row ≡ last))
before_or_last [] row last zero there = inr (refl, same_Some row last there)
before_or_last [] row last (suc at) there = absurd (none-some last there)
before_or_last (first ∷ rows) row last zero there = inl (omega arith, there)
before_or_last (first ∷ rows) row last (suc at) there =
    ⊎_elim (λ p. inl (omega (arith, p.0), p.1)) (λ p. inr (omega (arith, p.0), p.1)) (before_or_last rows row last at there)

module _ (rows : List RowTold) (row : RowTold) where
  -- the last row of another point stays
  other_stays : (last : RowTold) (at : ℕ) → at < length rows → slice_get rows at ≡ Some last →
      IsLastAt (rows ++ row ∷ []) last at → IsLastAt rows last at
  other_stays last at low there is = record {
    there = there;
    last = λ later other above found. is.last later other above
        (get_before rows row later (slice_get_within rows later other found) ∙ found);
  }

  head_more : (last : RowTold) (at : ℕ) (head : Option ℕ) → IsLastAt (rows ++ row ∷ []) last at →
      (IsLastAt rows last at → head ≡ Some at) →
      cond (bytes_eq row.name last.name) (Some (length rows)) head ≡ Some at
  head_more last at head is before = ⊎_elim earlier here (before_or_last rows row last at is.there)
    where
      by : (b : Bool) → bytes_eq row.name last.name ≡ b → (at < length rows) × (slice_get rows at ≡ Some last) →
          cond (bytes_eq row.name last.name) (Some (length rows)) head ≡ Some at
      by true e p = absurd (is.last (length rows) row p.0 (get_last rows row)
          ((bytes_eq-Decides row.name last.name).0 e))
      by false e p = ap (λ b. cond b (Some (length rows)) head) e ∙ before (other_stays last at p.0 p.1 is)

      earlier : (at < length rows) × (slice_get rows at ≡ Some last) →
          cond (bytes_eq row.name last.name) (Some (length rows)) head ≡ Some at
      earlier = by (bytes_eq row.name last.name) refl

      here : (at ≡ length rows) × (row ≡ last) →
          cond (bytes_eq row.name last.name) (Some (length rows)) head ≡ Some at
      here p = ap (λ b. cond b (Some (length rows)) head)
          ((bytes_eq-Decides row.name last.name).1 (ap (λ r. r.name) p.1)) ∙ ap Some (sym p.0)

-- a row more, and its place
pub heads_more : (old new : Heads) (rows : List Row) (row : Row) (at : ℕ) → at ≡ length rows →
    AreHeads old (map row_told rows) →
    ((name : List ℕ) → head_of new name ≡ cond (bytes_eq row.name name) (Some at) (head_of old name)) →
    AreHeads new (map row_told (rows ++ row ∷ []))
heads_more old new rows row at is are put last place it =
    let told = map row_told rows in
    let long : at ≡ length told = is ∙ sym (length-map rows row_told) in
    put last.name
    ∙ ap (λ n. cond (bytes_eq row.name last.name) (Some n) (head_of old last.name)) long
    ∙ head_more told (row_told row) last place (head_of old last.name)
    (subst (λ rs. IsLastAt rs last place) (map-append row_told rows (row ∷ [])) it)
    (are last place)

-- a row that was added is found at its place
pub row_added : {E : Type 0} (rows new : List RowTold) (row wanted : RowTold) (r : Result (Option ℕ) E) →
    row ≡ wanted → IfOk r (λ at. IfSome at (λ n. (n ≡ length rows) × (new ≡ rows ++ row ∷ []))) →
    IfOk r (λ at. IfSome at (λ n. slice_get new n ≡ Some wanted))
row_added rows new row wanted (Ok (Some n)) same h =
    ap (λ rs. slice_get rs n) h.1 ∙ ap (slice_get (rows ++ row ∷ [])) h.0 ∙ get_last rows row ∙ ap Some same
row_added rows new row wanted (Ok None) same h = tt
row_added rows new row wanted (Err e) same h = tt
