use Rattle.std.proofs.Common.{ap, ◌∙◌}
use Rattle.std.proofs.lemmas.Int.{to_z-of_z}
use mir.Syntax.{w128}
use Rattle.counters.specs.Budgets.{rights}
use Rattle.op_set.specs.Counts.{number_of}
use Rattle.replica_state.specs.Points.{budget_in}
use Rattle.op_set.proofs.Learned.{rights_counted}
use Rattle.op_set.proofs.point.Point.rights.Goals as goal

pub returns-in-Some-count_of : goal.returns-in-Some-count_of
returns-in-Some-count_of c =
    to_z-of_z w128 c.rights_in.result (record { sfits = c.rights_in.type_inv }) ∙ c.rights_in.ensures ∙
    ap (λ cs. rights (budget_in (number_of cs) c.args.term c.in-Some.key.node c.in-Some-count_of.count) c.args.node)
    c.deref.ensures.value ∙
    rights_counted c.args.self.now.key c.in-Some.key (number_of c.args.self.now.counts.items) c.args.term c.args.node
    c.in-Some-count_of.count c.in-Some.is c.in-Some-count_of.ensures
