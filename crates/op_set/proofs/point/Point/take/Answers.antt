use Rattle.std.proofs.Common.{ap, ◌∙◌}
use Rattle.op_set.specs.Counts.{number_of}
use Rattle.op_set.proofs.Counts.{number_of-hits}
use Rattle.op_set.proofs.point.Point.take.Goals as goal

pub returns-clause-number : goal.returns-clause-number
returns-clause-number c = λ d. ap (λ cs. number_of cs d) c.keep_hits.ensures.items ∙
    number_of-hits c.args.self.now.counts.items d
