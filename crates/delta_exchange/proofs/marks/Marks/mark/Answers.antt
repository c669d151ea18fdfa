use Rattle.std.proofs.Common.{cond, Option, ap, ◌∙◌, sym, subst, IsTrue}
use Rattle.delta_exchange.specs.declared.marks.NameMarks.{NameMarks}
use Rattle.delta_exchange.specs.Marks.{key_of, cell_of, is_room, is_of}
use Rattle.delta_exchange.proofs.MarkLemmas.{marked, kept_room, lent_at}
use Rattle.delta_exchange.proofs.marks.Marks.mark.Goals as goal

pub returns-in-Some-clause-marks : goal.returns-in-Some-clause-marks
returns-in-Some-clause-marks c =
    let here = sym c.in-Some.ensures.value in
    marked c.args.self.now (record { names = c.get_mut.follows.lender c.mark.new.self }) c.args.name.now c.mark.new.self
    (lent_at c.args.self.now.names c.get_mut.follows.lender c.args.name.now c.in-Some.marks.now c.mark.new.self
    c.get_mut.follows.holds here)
    c.args.new_key c.args.counted c.args.version c.mark.ensures.latest
    (c.mark.ensures.key ∙ ap (λ (o : Option NameMarks). cond c.args.new_key c.args.version (key_of o)) (sym here))
    (λ d. c.mark.ensures.cells d ∙ ap (λ (o : Option NameMarks). cond (is_of c.args.counted d) c.args.version
    (cell_of o d)) (sym here))

pub returns-in-Some-clause-kept : goal.returns-in-Some-clause-kept
returns-in-Some-clause-kept c =
    let here = sym c.in-Some.ensures.value in
    kept_room c.args.self.now (record { names = c.get_mut.follows.lender c.mark.new.self }) c.args.name.now
    c.mark.new.self
    (lent_at c.args.self.now.names c.get_mut.follows.lender c.args.name.now c.in-Some.marks.now c.mark.new.self
    c.get_mut.follows.holds here)
    (λ d room. c.mark.ensures.kept d (subst (λ (o : Option NameMarks). IsTrue (is_room o d)) here room))
