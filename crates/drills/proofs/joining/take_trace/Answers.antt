use Rattle.std.proofs.Common.{◌≡◌, length, map, Some, None, sym, ap, ◌∙◌, arith}
use Rattle.drills.specs.Parts.{part_of}
use Rattle.drills.specs.Places.{place_from}
use Rattle.drills.proofs.Joins.{found_calls, found_low, none_of, others_stay}
use Rattle.drills.proofs.joining.take_trace.Goals as goal

pub remove-requires : goal.remove-requires
remove-requires c =
    let items = c.args.parts.now.items in
    let found : place_from c.args.node 0 (map part_of items) ≡ Some c.in-Some.index =
    ap (λ ps. place_from c.args.node 0 (map part_of ps)) (sym c.deref.ensures.value) ∙ sym c.place_of.ensures
    ∙ c.in-Some.is in
    let low = found_low c.args.node items c.in-Some.index found in
    let same = ap length c.deref.ensures.value in
    let len = c.deref.ensures.len in
    omega (arith, low, same, len)

pub returns-in-Some-clause-taken : goal.returns-in-Some-clause-taken
returns-in-Some-clause-taken c =
    let items = c.args.parts.now.items in
    let found : place_from c.args.node 0 (map part_of items) ≡ Some c.in-Some.index =
    ap (λ ps. place_from c.args.node 0 (map part_of ps)) (sym c.deref.ensures.value) ∙ sym c.place_of.ensures
    ∙ c.in-Some.is in
    found_calls c.args.node items c.in-Some.index c.remove.result found c.remove.ensures.value

pub returns-in-Some-clause-others : goal.returns-in-Some-clause-others
returns-in-Some-clause-others c = λ other distinct.
    let items = c.args.parts.now.items in
    let found : place_from c.args.node 0 (map part_of items) ≡ Some c.in-Some.index =
    ap (λ ps. place_from c.args.node 0 (map part_of ps)) (sym c.deref.ensures.value) ∙ sym c.place_of.ensures
    ∙ c.in-Some.is in
    others_stay c.args.node other items c.remove.new.self.items c.in-Some.index c.remove.result found
    c.remove.ensures.value c.remove.ensures.by_index.2 distinct

pub returns-in-None-clause-taken : goal.returns-in-None-clause-taken
returns-in-None-clause-taken c =
    let items = c.args.parts.now.items in
    let none : place_from c.args.node 0 (map part_of items) ≡ None =
    ap (λ ps. place_from c.args.node 0 (map part_of ps)) (sym c.deref.ensures.value) ∙ sym c.place_of.ensures
    ∙ c.in-None.is in
    c.new.ensures.calls ∙ none_of c.args.node 0 items none
