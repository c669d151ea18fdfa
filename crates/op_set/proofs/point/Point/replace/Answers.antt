use Rattle.std.proofs.Common.{◌∙◌}
use Rattle.op_set.proofs.Counts.{number_of-kept}
use Rattle.op_set.proofs.point.Point.replace.Goals as goal

pub returns-clause-ok : goal.returns-clause-ok
returns-clause-ok c = λ d. c.put.ensures d ∙ number_of-kept c.args.self.now.counts.items c.reserve.new.self.items
    c.take.new.self.counts.items c.in_ok-reserve.ensures.items c.take.ensures.number c.args.count d
