use Rattle.std.proofs.Common.{◌≡◌, ℕ, ◌+◌, ap, sym, ◌∙◌, cond, Some, None, Option, List, arith, subst, refl}
use Rattle.std.specs.Option.{IsSome, unwrap_or}
use Rattle.std.specs.Map.{lookup}
use Rattle.std.specs.BTreeMap.{BTreeMap, is_at}
use Rattle.std.specs.Ordering.{is_eq, nat_cmp, ordering_then}
use Rattle.audit.specs.Sums.{sum_of, is_term}
use Rattle.audit.proofs.SumsKept.{same_places, grown}
use Rattle.audit.proofs.sums.Sums.add.Goals as goal

abbrev Found : Type 0
Found = List ((ℕ × ℕ × ℕ) × ℕ) → ℕ → ℕ → ℕ → Option ℕ

find : Found
find es x y z =
    lookup (is_at (λ place. ordering_then (ordering_then (nat_cmp x place.0) (nat_cmp y place.1)) (nat_cmp z place.2))) es

pub returns-in-Some : goal.returns-in-Some
unfolding sum_of find
returns-in-Some c = λ other k.
    let sums = c.args.self.now.sums.entries in
    let sum = c.in-Some.sum.now + c.from.result in
    let new = (c.get_mut.follows.lender sum).entries in
    let here : find sums c.args.stamp.clock c.args.stamp.node c.args.term ≡ Some c.in-Some.sum.now =
    sym c.in-Some.ensures.value in
    let is : sum ≡ unwrap_or (find sums c.args.stamp.clock c.args.stamp.node c.args.term) 0 + c.args.amount =
    ap (λ n. c.in-Some.sum.now + n) c.from.ensures ∙ sym (ap (λ o. unwrap_or o 0 + c.args.amount) here) in
    let old : Option ℕ = find sums other.clock other.node k in
    grown (find sums) (find new) c.args.stamp.clock c.args.stamp.node c.args.term c.args.amount other.clock other.node k
    (((c.get_mut.follows.holds sum).3 (subst (λ (o : Option ℕ). IsSome o) (sym here) refl)).0
    (other.clock, other.node, k)
    ∙ ap (λ t. cond t (Some sum) old)
    (sym (same_places c.args.stamp.clock c.args.stamp.node c.args.term other.clock other.node k))
    ∙ ap (λ n. cond (is_term c.args.stamp c.args.term other k) (Some n) old) is)

pub returns : goal.returns
unfolding sum_of find
returns c = λ other k.
    let sums = c.args.self.now.sums.entries in
    let none : find sums c.args.stamp.clock c.args.stamp.node c.args.term ≡ None = sym c.in_default.ensures.value in
    let zero : unwrap_or (find sums c.args.stamp.clock c.args.stamp.node c.args.term) 0 ≡ 0 =
    ap {B = ℕ} (λ o. unwrap_or o 0) none in
    let is : c.from-2.result ≡ unwrap_or (find sums c.args.stamp.clock c.args.stamp.node c.args.term) 0
    + c.args.amount = omega (arith, c.from-2.ensures, zero) in
    let old : Option ℕ = find sums other.clock other.node k in
    grown (find sums) (find c.insert.new.self.entries) c.args.stamp.clock c.args.stamp.node c.args.term c.args.amount
    other.clock other.node k
    (c.in_ok-insert.ensures.updates.0 (other.clock, other.node, k)
    ∙ ap (λ (m : BTreeMap (ℕ × ℕ × ℕ) ℕ). cond (is_eq (ordering_then (ordering_then
    (nat_cmp c.args.stamp.clock other.clock) (nat_cmp c.args.stamp.node other.node)) (nat_cmp c.args.term k)))
    (Some c.from-2.result) (find m.entries other.clock other.node k)) c.get_mut.follows.holds-at-none
    ∙ ap (λ t. cond t (Some c.from-2.result) old)
    (sym (same_places c.args.stamp.clock c.args.stamp.node c.args.term other.clock other.node k))
    ∙ ap (λ n. cond (is_term c.args.stamp c.args.term other k) (Some n) old) is)
