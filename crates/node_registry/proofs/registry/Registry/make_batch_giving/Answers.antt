use Rattle.std.proofs.Common.{◌≤◌, length, rules}
use Rattle.node_registry.proofs.GivenCalls.{given_batch}
use Rattle.node_registry.proofs.registry.Registry.make_batch_giving.Goals as goal

pub returns : goal.returns
returns g c =
    let cell = c.deref_mut.result.now in
    let next : c.args.seat.now.next ≤ length cell.node.trace = search rules in
    given_batch g.L.Label.config g.L.Label.seed g.L.Label.keeps g.L.Ledger.parts c.args.seat.now
    c.make_batch_giving.new.seat cell c.make_batch_giving.new.self c.make_batch_giving.ensures.since next _
    c.make_batch_giving.result.1 c.make_batch_giving.ensures.entered c.make_batch_giving.ensures.handed
