use Rattle.std.proofs.Common.{Option, ap, ◌∙◌}
use Rattle.std.proofs.lemmas.Int.{to_z-of_z}
use mir.Syntax.{w128}
use Rattle.std.specs.Prelude.{pos}
use Rattle.std.specs.Option.{option_map_or}
use Rattle.counters.specs.Budgets.{Budget, rights}
use Rattle.op_set.specs.SetOrder.{state_of}
use Rattle.op_set.proofs.Shown.{budget_held}
use Rattle.op_set.proofs.set.OpSetReplica.rights.Goals as goal

pub returns-in-Some : goal.returns-in-Some
unfolding state_of
returns-in-Some c = (to_z-of_z w128 c.rights.result (record { sfits = c.rights.type_inv }) ∙ c.rights.ensures ∙
    ap (λ (b : Option Budget). option_map_or (λ b. rights b c.args.node) b (pos 0))
    (budget_held c.args.self.now.points c.args.name.now c.args.term c.in-Some.point.now c.in-Some.ensures.value))
