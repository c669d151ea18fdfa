use Rattle.std.proofs.Common.{ℕ, cond, List, Option, Some, ap, ◌∙◌, sym, subst, IsTrue}
use Rattle.std.proofs.lemmas.Bool.{true≢false}
use Rattle.std.specs.BTreeMap.{BTreeMap, is_at}
use Rattle.std.specs.Ordering.{nat_cmp}
use Rattle.std.specs.Cmp.Lexicographic.{slice_cmp}
use Rattle.operations.specs.declared.counted.Counted.{Counted}
use Rattle.delta_exchange.specs.declared.marks.NameMarks.{NameMarks}
use Rattle.delta_exchange.specs.declared.marks.Marks.{Marks}
use Rattle.delta_exchange.specs.Marks.{marks_at, latest_of, key_of, cell_of, is_room, marks_value, KeepsRoom}
use Rattle.delta_exchange.specs.PassMarks.{pass_mark}
use Rattle.delta_exchange.proofs.PassMarkLemmas.{found, mark_by}
use Rattle.delta_exchange.proofs.MarkLemmas.{same_marks, kept_room, lent_at}
use Rattle.delta_exchange.proofs.marks.Marks.make_room.Goals as goal

pub returns-in-Some-clause-same : goal.returns-in-Some-clause-same
returns-in-Some-clause-same c =
    let here = sym c.in-Some.ensures.value in
    same_marks c.args.self.now (record { names = c.get_mut.follows.lender c.make_room.new.self }) c.args.name.now
    c.make_room.new.self
    (lent_at c.args.self.now.names c.get_mut.follows.lender c.args.name.now c.in-Some.marks.now c.make_room.new.self
    c.get_mut.follows.holds here)
    (c.make_room.ensures.latest ∙ ap (λ (o : Option NameMarks). latest_of o) (sym here))
    (c.make_room.ensures.key ∙ ap (λ (o : Option NameMarks). key_of o) (sym here))
    (λ d. c.make_room.ensures.cells d ∙ ap (λ (o : Option NameMarks). cell_of o d) (sym here))

pub returns-in-Some-clause-kept : goal.returns-in-Some-clause-kept
returns-in-Some-clause-kept c =
    let here = sym c.in-Some.ensures.value in
    kept_room c.args.self.now (record { names = c.get_mut.follows.lender c.make_room.new.self }) c.args.name.now
    c.make_room.new.self
    (lent_at c.args.self.now.names c.get_mut.follows.lender c.args.name.now c.in-Some.marks.now c.make_room.new.self
    c.get_mut.follows.holds here)
    (λ d room. c.make_room.ensures.kept d (subst (λ (o : Option NameMarks). IsTrue (is_room o d)) here room))

pub returns-clause-same : goal.returns-clause-same
returns-clause-same c =
    let none = c.get_mut.follows.holds-at-none in
    let lender : Marks = record { names = c.get_mut.follows.lender-at-none } in
    let absent = ap (λ (m : BTreeMap (List ℕ) NameMarks). marks_at m.entries c.args.name.now) none ∙
    sym c.in_default.ensures.value in
    same_marks lender (record { names = c.insert.new.self }) c.args.name.now c.make_room-2.new.self
    (λ q. c.in_ok-insert.ensures.updates.0 q ∙ ap (λ n. cond (is_at (slice_cmp nat_cmp n) q)
    (Some c.make_room-2.new.self) (marks_at c.get_mut.follows.lender-at-none.entries q)) c.in_ok-copied.ensures)
    (c.make_room-2.ensures.latest ∙ c.new-marks.ensures.latest ∙
    ap (λ (o : Option NameMarks). latest_of o) (sym absent))
    (c.make_room-2.ensures.key ∙ c.new-marks.ensures.key ∙ ap (λ (o : Option NameMarks). key_of o) (sym absent))
    (λ d. c.make_room-2.ensures.cells d ∙ ap (λ (es : List (Counted × ℕ)).
    mark_by (pass_mark c.new-marks.result.passes d) (found es d)) c.new-marks.ensures.cells ∙
    ap (λ (o : Option NameMarks). cell_of o d) (sym absent)) ∙
    ap (λ (m : BTreeMap (List ℕ) NameMarks). marks_value (record { names = m })) none

pub returns-clause-kept : goal.returns-clause-kept
returns-clause-kept c =
    let none = c.get_mut.follows.holds-at-none in
    let lender : Marks = record { names = c.get_mut.follows.lender-at-none } in
    let absent = ap (λ (m : BTreeMap (List ℕ) NameMarks). marks_at m.entries c.args.name.now) none ∙
    sym c.in_default.ensures.value in
    subst (λ (m : BTreeMap (List ℕ) NameMarks). KeepsRoom (record { names = m }) (record { names = c.insert.new.self }))
    none
    (kept_room lender (record { names = c.insert.new.self }) c.args.name.now c.make_room-2.new.self
    (λ q. c.in_ok-insert.ensures.updates.0 q ∙ ap (λ n. cond (is_at (slice_cmp nat_cmp n) q)
    (Some c.make_room-2.new.self) (marks_at c.get_mut.follows.lender-at-none.entries q)) c.in_ok-copied.ensures)
    (λ d room. absurd (true≢false (sym (subst (λ (o : Option NameMarks). IsTrue (is_room o d)) absent room)))))
