use Rattle.std.proofs.Common.{◌≡◌, ℕ, true, List, Option, Some, None, ap, ◌∙◌, subst, sym}
use Rattle.std.specs.Option.{is_some}
use Rattle.std.specs.List.{position}
use Rattle.operations.specs.declared.counted.Count.{Count}
use Rattle.op_set.specs.Counts.{number_of}
use Rattle.operations.specs.Counts.{same_counted}
use Rattle.op_set.proofs.Counts.{number_of-raised, number_of-append}
use Rattle.op_set.proofs.point.raise.Goals as goal

pub returns-in-Some-clause-number : goal.returns-in-Some-clause-number
returns-in-Some-clause-number c =
    let at : position (λ (x : Count). same_counted x.counted c.args.count.counted) c.args.counts.now.items ≡ Some
    c.in-Some.place = ap (λ (cs : List Count). position (λ (x : Count). same_counted x.counted c.args.count.counted)
    cs) (sym c.deref.ensures.value) ∙ sym c.in-Some.ensures in
    number_of-raised c.args.counts.now.items c.args.count c.index_mut-held.result.now c.max-held.result c.in-Some.place
    at c.index_mut-held.ensures.value c.max-held.ensures

pub returns-in-None-clause-number : goal.returns-in-None-clause-number
returns-in-None-clause-number c = λ d. ap (λ (cs : List Count). number_of cs d) c.push_reserved.ensures.items ∙
    number_of-append c.args.counts.now.items c.args.count d

pub returns-in-None-clause-in_place : goal.returns-in-None-clause-in_place
returns-in-None-clause-in_place c = λ h.
    let none : position (λ (x : Count). same_counted x.counted c.args.count.counted) c.args.counts.now.items ≡ None =
    ap (λ (cs : List Count). position (λ (x : Count). same_counted x.counted c.args.count.counted) cs)
    (sym c.deref.ensures.value) ∙ sym c.in-None.ensures in
    let held : is_some {T = ℕ} None ≡ true = subst (λ (o : Option ℕ). is_some o ≡ true) none h in
    cc
