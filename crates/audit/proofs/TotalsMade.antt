-- The totals of a tally, in the order in which its counts are kept.
use Rattle.std.proofs.Common.{Ordering, ◌≡◌, ℕ, zero, suc, ◌==◌, ◌&&◌, true, Less, List, [], ◌∷◌, map, Some, refl, sym, ◌∙◌, ap, subst, slice_get}
use Rattle.std.specs.List.{AllByRecursion}
use Rattle.std.specs.List.Sorted.{IsStrictlySortedBy}
use Rattle.std.specs.Map.{keys_of}
use Rattle.std.specs.Cmp.{IsTotalOrder}
use Rattle.std.specs.Ordering.{nat_cmp, ordering_then}
use Rattle.std.specs.Cmp.Lexicographic.{slice_cmp}
use Rattle.std.proofs.lemmas.Cmp.{eq_by_cmp_equiv, then_total, nat_cmp_total, nat_list_cmp_total}
use Rattle.std.proofs.lemmas.Map.Entries.{lookup_from_place, place_from_lookup}
use Rattle.std.proofs.lemmas.Map.Keys.{IsDistinct-from_sorted}
use Rattle.std.specs.Str.{bytes_eq}
use Rattle.std.proofs.lemmas.Slice.Eq.{bytes_eq-Decides}
use Rattle.std.proofs.lemmas.Bool.{eqb-true, and_parts}
use Rattle.stamp_register.specs.declared.key.Stamp.{Stamp}
use Rattle.audit.specs.declared.tally.Tally.{Tally}
use Rattle.audit.specs.declared.total.Total.{Total}
use Rattle.audit.specs.Sums.{sum_of}
use Rattle.audit.specs.Counts.{count_kept}
use Rattle.audit.specs.Totals.{total_cmp, HasTotal, IsTotalIn, AreTotalsIn}
use Rattle.audit.proofs.CountsKept.{same_places}

-- a place: a name, a stamp's clock and node, and a term
abbrev pub Place : Type 0
Place = List ℕ × ℕ × ℕ × ℕ

abbrev pub place_cmp : Place → Place → Ordering
place_cmp x y =
    ordering_then (ordering_then (ordering_then (slice_cmp nat_cmp x.0 y.0) (nat_cmp x.1 y.1)) (nat_cmp x.2 y.2))
    (nat_cmp x.3 y.3)

abbrev pub stamp_at : Place → Stamp
stamp_at place = record { clock = place.1; node = place.2 }

abbrev pub total_of : Tally → Place × ℕ → Total
total_of t e = record {
  name = e.0.0;
  stamp = stamp_at e.0;
  term = e.0.3;
  count = e.1;
  granted = sum_of t.granted (stamp_at e.0) e.0.3;
  executed = sum_of t.executed (stamp_at e.0) e.0.3;
}

got : (f : Place × ℕ → Total) (es : List (Place × ℕ)) (i : ℕ) (t : Total) → slice_get (map f es) i ≡ Some t →
    (e : Place × ℕ) × (slice_get es i ≡ Some e) × (f e ≡ t)
got f [] i t h = absurd (cc h)
got f (e ∷ es) zero t h = (e, refl, cc)
got f (e ∷ es) (suc i) t h = got f es i t h

get_mapped : (f : Place × ℕ → Total) (es : List (Place × ℕ)) (i : ℕ) (e : Place × ℕ) → slice_get es i ≡ Some e →
    slice_get (map f es) i ≡ Some (f e)
get_mapped f [] i e h = absurd (cc h)
get_mapped f (d ∷ es) zero e h = let same : d ≡ e = cc in ap (λ x. Some (f x)) same
get_mapped f (d ∷ es) (suc i) e h = get_mapped f es i e h

above : (t : Tally) (d : Place × ℕ) (es : List (Place × ℕ)) →
    AllByRecursion (λ k. place_cmp d.0 k ≡ Less) (keys_of es) →
    AllByRecursion (λ (b : Total). total_cmp (total_of t d) b ≡ Less) (map (total_of t) es)
above t d [] h = tt
above t d (e ∷ es) h = (h.0, above t d es h.1)

ascending : (t : Tally) (es : List (Place × ℕ)) → IsStrictlySortedBy place_cmp (keys_of es) →
    IsStrictlySortedBy total_cmp (map (total_of t) es)
unfolding IsStrictlySortedBy
ascending t [] h = tt
ascending t (e ∷ es) h = (above t e es h.0, ascending t es h.1)

kept_at : (t : Tally) → IsTotalOrder place_cmp → IsStrictlySortedBy place_cmp (keys_of t.counts.counts.entries) →
    (i : ℕ) (e : Place × ℕ) → slice_get t.counts.counts.entries i ≡ Some e →
    count_kept t.counts e.0.0 (stamp_at e.0) e.0.3 ≡ Some e.1
unfolding count_kept
kept_at t total_order sorted i e h =
    lookup_from_place (eq_by_cmp_equiv total_order) t.counts.counts.entries i e.0 e.1
    (IsDistinct-from_sorted place_cmp (keys_of t.counts.counts.entries) sorted) h

has_total : (t : Tally) (name : List ℕ) (stamp : Stamp) (term count : ℕ) →
    count_kept t.counts name stamp term ≡ Some count → HasTotal (map (total_of t) t.counts.counts.entries) name stamp
    term
unfolding count_kept
has_total t name stamp term count h =
    let found = place_from_lookup _ t.counts.counts.entries count h in
    let place : Place = found.1 in
    let same : (bytes_eq name place.0 && (stamp.clock == place.1 && (stamp.node == place.2 && (term == place.3)))) ≡
    true = same_places name place.0 stamp.clock stamp.node term place.1 place.2 place.3 ∙ found.3 in
    let both = and_parts (bytes_eq name place.0) _ same in
    let first = and_parts (stamp.clock == place.1) _ both.1 in
    let rest = and_parts (stamp.node == place.2) _ first.1 in
    let names : name ≡ place.0 = (bytes_eq-Decides name place.0).0 both.0 in
    let clock : stamp.clock ≡ place.1 = eqb-true stamp.clock place.1 first.0 in
    let node : stamp.node ≡ place.2 = eqb-true stamp.node place.2 rest.0 in
    let number : term ≡ place.3 = eqb-true term place.3 rest.1 in
    record {
      place = found.0;
      total = total_of t (place, count);
      there = get_mapped (total_of t) t.counts.counts.entries found.0 (place, count) found.2;
      named = sym names;
      stamped = λ i. record { clock = sym clock i; node = sym node i };
      numbered = sym number;
    }

pub totals_made : (t : Tally) (totals : List Total) → IsTotalOrder place_cmp →
    IsStrictlySortedBy place_cmp (keys_of t.counts.counts.entries) →
    totals ≡ map (total_of t) t.counts.counts.entries → AreTotalsIn t totals
totals_made t totals total_order sorted is = subst (λ ts. AreTotalsIn t ts) (sym is)
    (record { each = total_in; all = has_total t; ascend = ascending t t.counts.counts.entries sorted })
  where
    total_in : (i : ℕ) (x : Total) → slice_get (map (total_of t) t.counts.counts.entries) i ≡ Some x → IsTotalIn t x
    total_in i x h =
        let found = got (total_of t) t.counts.counts.entries i x h in
        subst (IsTotalIn t) found.2 (record {
          counted = kept_at t total_order sorted i found.0 found.1;
          granted = refl;
          executed = refl;
        })

-- places are ordered by their parts
on_total : {A K : Type 0} {R : K → K → Ordering} (f : A → K) → IsTotalOrder R → IsTotalOrder (λ x y. R (f x) (f y))
on_total f t = record {
  antisymm = λ x y. t.antisymm (f x) (f y);
  trans = λ x y z. t.trans (f x) (f y) (f z);
  congr = λ x y z. t.congr (f x) (f y) (f z);
}

pub place_total : IsTotalOrder place_cmp
place_total =
    then_total (then_total (then_total (on_total (λ (x : Place). x.0) nat_list_cmp_total)
    (on_total (λ (x : Place). x.1) nat_cmp_total)) (on_total (λ (x : Place). x.2) nat_cmp_total))
    (on_total (λ (x : Place). x.3) nat_cmp_total)
