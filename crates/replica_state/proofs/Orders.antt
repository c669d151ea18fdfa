-- The tests of names, keys and cells decide.
use Rattle.std.proofs.Common.{◌≡◌, ℕ, ◌==◌, true, List, refl, sym}
use Rattle.std.proofs.lemmas.Bool.{true≢false, and_parts, and_from, eqb-true, eq-eqb}
use Rattle.std.proofs.lemmas.Slice.Eq.{bytes_eq-Decides}
use Rattle.std.specs.Str.{bytes_eq}
use Rattle.std.specs.Ordering.{nat_cmp}
use Rattle.std.specs.Cmp.Lexicographic.{slice_cmp}
use Rattle.std.specs.declared.cmp.Ordering.{Ordering}
use Rattle.stamp_register.specs.Keys.{KeyValue, key_rank}
pub use Rattle.stamp_register.proofs.KeyLemmas.{same_key-true, same_key-refl, same_key-cmp, key_le-refl, key_le-trans, key_le-antisym, key_le-other}
use Rattle.operations.specs.Operations.{Cell, Hits, Execs, Shifts, same_cell}

pub rank_cmp : KeyValue → KeyValue → Ordering
rank_cmp a b = slice_cmp nat_cmp (key_rank a) (key_rank b)

pub bytes_eq-refl : (a : List ℕ) → bytes_eq a a ≡ true
bytes_eq-refl a = (bytes_eq-Decides a a).1 refl

pub bytes_eq-true : (a b : List ℕ) → bytes_eq a b ≡ true → a ≡ b
bytes_eq-true a b = (bytes_eq-Decides a b).0

eqb-refl : (a : ℕ) → (a == a) ≡ true
eqb-refl a = eq-eqb a a refl

pub same_cell-refl : (c : Cell) → same_cell c c ≡ true
unfolding same_cell
same_cell-refl (Hits n i) = and_from _ _ (bytes_eq-refl n) (eqb-refl i)
same_cell-refl (Execs n k t i) = and_from _ _ (bytes_eq-refl n)
    (and_from _ _ (same_key-refl k) (and_from _ _ (eqb-refl t) (eqb-refl i)))
same_cell-refl (Shifts n k t i j) = and_from _ _ (bytes_eq-refl n)
    (and_from _ _ (same_key-refl k) (and_from _ _ (eqb-refl t) (and_from _ _ (eqb-refl i) (eqb-refl j))))

pub same_cell-true : (c d : Cell) → same_cell c d ≡ true → c ≡ d
unfolding same_cell
same_cell-true (Hits n i) (Hits m j) h =
    let p = and_parts _ _ h in
    let a = bytes_eq-true n m p.0 in
    let b = eqb-true i j p.1 in
    cc
same_cell-true (Execs n k t i) (Execs m l u j) h =
    let p = and_parts _ _ h in
    let q = and_parts _ _ p.1 in
    let r = and_parts _ _ q.1 in
    let a = bytes_eq-true n m p.0 in
    let b = same_key-true k l q.0 in
    let c = eqb-true t u r.0 in
    let d = eqb-true i j r.1 in
    cc
same_cell-true (Shifts n k t i o) (Shifts m l u j p') h =
    let p = and_parts _ _ h in
    let q = and_parts _ _ p.1 in
    let r = and_parts _ _ q.1 in
    let s = and_parts _ _ r.1 in
    let a = bytes_eq-true n m p.0 in
    let b = same_key-true k l q.0 in
    let c = eqb-true t u r.0 in
    let d = eqb-true i j s.0 in
    let e = eqb-true o p' s.1 in
    cc
same_cell-true (Hits n i) (Execs m l u j) h = absurd (true≢false (sym h))
same_cell-true (Hits n i) (Shifts m l u j p) h = absurd (true≢false (sym h))
same_cell-true (Execs n k t i) (Hits m j) h = absurd (true≢false (sym h))
same_cell-true (Execs n k t i) (Shifts m l u j p) h = absurd (true≢false (sym h))
same_cell-true (Shifts n k t i o) (Hits m j) h = absurd (true≢false (sym h))
same_cell-true (Shifts n k t i o) (Execs m l u j) h = absurd (true≢false (sym h))
