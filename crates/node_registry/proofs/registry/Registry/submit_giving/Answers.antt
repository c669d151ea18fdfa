use Rattle.std.proofs.Common.{◌≤◌, length, rules}
use Rattle.node_registry.proofs.GivenCalls.{given_call}
use Rattle.node_registry.proofs.registry.Registry.submit_giving.Goals as goal

pub returns-clause-given : goal.returns-clause-given
returns-clause-given g c =
    let cell = c.deref_mut.result.now in
    let next : c.args.seat.now.next ≤ length cell.node.trace = search rules in
    given_call g.L.Label.config g.L.Label.seed g.L.Label.keeps g.L.Ledger.parts c.args.seat.now c.submit_giving.new.seat
    cell c.submit_giving.new.self c.submit_giving.ensures.since next c.args.ask c.submit_giving.result
    c.submit_giving.ensures.ok c.submit_giving.ensures.counted
