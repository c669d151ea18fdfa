-- What is counted is compared by its kind and its numbers.
use Rattle.std.proofs.Common.{◌≡◌, true, ◌&&◌, eqb, refl, sym}
use Rattle.std.proofs.lemmas.Bool.{true≢false, and_parts, and_from, eqb-true, eq-eqb}
use Rattle.operations.specs.declared.counted.Counted.{Counted}
use Rattle.operations.specs.declared.counted.Counted.TheVariants.{Hits, Execs, Shifts}
use Rattle.operations.specs.Counts.{same_counted}

pub same_counted-true : (a b : Counted) → same_counted a b ≡ true → a ≡ b
same_counted-true (Hits i) (Hits j) h = let e = eqb-true i j h in cc
same_counted-true (Execs k i) (Execs l j) h =
    let p = and_parts (eqb k l) (eqb i j) h in
    let e = eqb-true k l p.0 in
    let f = eqb-true i j p.1 in
    cc
same_counted-true (Shifts k i o) (Shifts l j p) h =
    let a = and_parts (eqb k l) (eqb i j && eqb o p) h in
    let b = and_parts (eqb i j) (eqb o p) a.1 in
    let e = eqb-true k l a.0 in
    let f = eqb-true i j b.0 in
    let g = eqb-true o p b.1 in
    cc
same_counted-true (Hits i) (Execs l j) h = absurd (true≢false (sym h))
same_counted-true (Hits i) (Shifts l j p) h = absurd (true≢false (sym h))
same_counted-true (Execs k i) (Hits j) h = absurd (true≢false (sym h))
same_counted-true (Execs k i) (Shifts l j p) h = absurd (true≢false (sym h))
same_counted-true (Shifts k i o) (Hits j) h = absurd (true≢false (sym h))
same_counted-true (Shifts k i o) (Execs l j) h = absurd (true≢false (sym h))

pub same_counted-refl : (a : Counted) → same_counted a a ≡ true
same_counted-refl (Hits i) = eq-eqb i i refl
same_counted-refl (Execs k i) = and_from _ _ (eq-eqb k k refl) (eq-eqb i i refl)
same_counted-refl (Shifts k i o) = and_from _ _ (eq-eqb k k refl) (and_from _ _ (eq-eqb i i refl) (eq-eqb o o refl))
