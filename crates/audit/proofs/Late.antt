-- The order of a list's receipts.
use Rattle.std.proofs.Common.{◌≡◌, ◌≢◌, ℕ, ◌+◌, ◌<◌, ◌≤◌, List, length, slice_index, slice_set, slice_get, Some, sym, ◌∙◌, ap, arith, inl, inr, get_or-set_same, get_or-set_other}
use Rattle.std.proofs.lemmas.Bool.Decides.{eqb_tells}
use Rattle.std.proofs.lemmas.List.{length-set}
use Rattle.node_calls.specs.declared.receipt.Receipt.{Receipt}
use Rattle.audit.specs.Receipts.{IsLate}

-- before a place of the list, next has for each node the index above those so far
pub record IsAhead (receipts : List Receipt) (place : ℕ) (next : List ℕ) : Type 0 where
  pub size : length next ≡ 256
  pub above : (q : ℕ) (r : Receipt) → q < place → slice_get receipts q ≡ Some r → r.index < slice_index next r.node
  pub reached : (n : ℕ) → n < 256 → 0 < slice_index next n →
      (q : ℕ) × (r : Receipt) × (q < place) × (slice_get receipts q ≡ Some r) × (r.node ≡ n) ×
      (r.index + 1 ≡ slice_index next n)
  pub none : (p : ℕ) → p < place → IsLate receipts p → ⊥

pub late_here : (receipts : List Receipt) (place : ℕ) (next : List ℕ) (r : Receipt) → IsAhead receipts place next →
    slice_get receipts place ≡ Some r → r.node < 256 →
    r.index < slice_index next r.node → IsLate receipts place
late_here receipts place next r ahead is small below =
    let at = ahead.reached r.node small (omega (arith, below)) in
    let same : at.1.index + 1 ≡ slice_index next r.node = at.5 in
    record {
      q = at.0;
      earlier = at.1;
      late = r;
      before = at.2;
      first = at.3;
      second = is;
      node = at.4;
      falls =
          omega (arith, same, below);
    }

pub ahead_next : (receipts : List Receipt) (place : ℕ) (next : List ℕ) (r : Receipt) → IsAhead receipts place next →
    slice_get receipts place ≡ Some r → r.node < 256 →
    slice_index next r.node ≤ r.index → IsAhead receipts (place + 1) (slice_set next r.node (r.index + 1))
ahead_next receipts place next r ahead is small up =
    let inside : r.node < length next = omega (arith, ahead.size, small) in
    let here : slice_index (slice_set next r.node (r.index + 1)) r.node ≡ r.index + 1 =
    get_or-set_same next r.node _ 0 inside in
    record {
      size = length-set next r.node (r.index + 1) ∙ ahead.size;
      above = λ q s before got. elim (eqb_tells s.node r.node) [
        | inl w ↦
            let there : slice_index (slice_set next r.node (r.index + 1)) s.node ≡ r.index + 1 =
            ap (λ m. slice_index (slice_set next r.node (r.index + 1)) m) w.1 ∙ here in
            (elim (eqb_tells q place) [
              | inl v ↦
                  let both : Some r ≡ Some s = sym is ∙ ap (λ k. slice_get receipts k) (sym v.1) ∙ got in
                  let equal : r ≡ s = cc in
                  let index : r.index ≡ s.index = ap (λ t. t.index) equal in
                  omega (arith, there, index)
              | inr v ↦
                  let differs : q ≢ place = v.1 in
                  let old : s.index < slice_index next s.node = ahead.above q s (omega (arith, before, differs)) got in
                  let same : slice_index next s.node ≡ slice_index next r.node = ap (λ m. slice_index next m) w.1 in
                  omega (arith, there, old, same, up)
            ])
        | inr w ↦
            let there : slice_index (slice_set next r.node (r.index + 1)) s.node ≡ slice_index next s.node =
            get_or-set_other next r.node s.node _ 0 w.1 in
            (elim (eqb_tells q place) [
              | inl v ↦
                  let both : Some r ≡ Some s = sym is ∙ ap (λ k. slice_get receipts k) (sym v.1) ∙ got in
                  let equal : r ≡ s = cc in
                  absurd (w.1 (ap (λ t. t.node) (sym equal)))
              | inr v ↦
                  let differs : q ≢ place = v.1 in
                  let old : s.index < slice_index next s.node = ahead.above q s (omega (arith, before, differs)) got in
                  omega (arith, there, old)
            ])
      ];
      reached = λ n few positive. elim (eqb_tells n r.node) [
        | inl w ↦ (
          place,
          r,
          omega arith,
          is,
          sym w.1,
          sym here ∙
              ap (λ m. slice_index (slice_set next r.node (r.index + 1)) m) (sym w.1),
        )
        | inr w ↦
            let there : slice_index (slice_set next r.node (r.index + 1)) n ≡ slice_index next n =
            get_or-set_other next r.node n _ 0 w.1 in
            let old = ahead.reached n few (omega (arith, there, positive)) in
            let before : old.0 < place = old.2 in
            (old.0, old.1, omega (arith, before), old.3, old.4, old.5 ∙ sym there)
      ];
      none = λ p before late. elim (eqb_tells p place) [
        | inl w ↦
            let both : Some r ≡ Some late.late = sym is ∙ ap (λ k. slice_get receipts k) (sym w.1) ∙ late.second in
            let equal : r ≡ late.late = cc in
            let earlier : late.q < place = omega (arith, late.before, w.1) in
            let old : late.earlier.index < slice_index next late.earlier.node =
            ahead.above late.q late.earlier earlier late.first in
            let same : slice_index next late.earlier.node ≡ slice_index next r.node =
            ap (λ m. slice_index next m) (late.node ∙ ap (λ t. t.node) (sym equal)) in
            let index : r.index ≡ late.late.index = ap (λ t. t.index) equal in
            let falls : late.late.index ≤ late.earlier.index = late.falls in
            omega (arith, old, same, index, falls, up)
        | inr w ↦
            let differs : p ≢ place = w.1 in
            ahead.none p (omega (arith, before, differs)) late
      ];
    }

-- nothing is late before the first place
pub ahead_start : (receipts : List Receipt) (next : List ℕ) → length next ≡ 256 →
    ((n : ℕ) → n < 256 → slice_index next n ≡ 0) → IsAhead receipts 0 next
ahead_start receipts next size zeros = record {
  size = size;
  above = λ q r before got. absurd (omega (arith, before));
  reached = λ n few positive. let z : slice_index next n ≡ 0 = zeros n few in absurd (omega (arith, positive, z));
  none = λ p before late. absurd (omega (arith, before));
}
