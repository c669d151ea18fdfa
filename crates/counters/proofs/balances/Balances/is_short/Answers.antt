use Rattle.std.specs.Prelude.{true}
use Rattle.std.proofs.Common.{◌∙◌}
use Rattle.counters.proofs.balances.Balances.is_short.Goals as goal

pub returns-in-Some : goal.returns-in-Some
returns-in-Some c =
    let at = c.in-Some.ensures.lookup in
    rw (← c.self.view_is) (at.3.1 true ∙ c.self.invariant.marked c.args.node at.3.0)
