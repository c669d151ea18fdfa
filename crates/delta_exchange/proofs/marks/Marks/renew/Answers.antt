use Rattle.std.proofs.Common.{cond, Option, ap, ◌∙◌, sym}
use Rattle.operations.specs.Counts.{is_hits}
use Rattle.delta_exchange.specs.declared.marks.NameMarks.{NameMarks}
use Rattle.delta_exchange.specs.Marks.{cell_of}
use Rattle.delta_exchange.proofs.MarkLemmas.{renewed, lent_at}
use Rattle.delta_exchange.proofs.marks.Marks.renew.Goals as goal

pub returns-in-Some : goal.returns-in-Some
returns-in-Some c =
    let here = sym c.in-Some.ensures.value in
    renewed c.args.self.now (record { names = c.get_mut.follows.lender c.renew.new.self }) c.args.name.now
    c.renew.new.self
    (lent_at c.args.self.now.names c.get_mut.follows.lender c.args.name.now c.in-Some.marks.now c.renew.new.self
    c.get_mut.follows.holds here)
    c.args.version c.renew.ensures.latest c.renew.ensures.key
    (λ d. c.renew.ensures.cells d ∙
    ap (λ (o : Option NameMarks). cond (is_hits d) (cell_of o d) 0) (sym here))
