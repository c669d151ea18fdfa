use Rattle.std.proofs.Common.{length, pos, arith}
use Rattle.std.proofs.lemmas.List.FromFn.{fill_by_all}
use Rattle.replica_state.specs.Points.{rights_of_key}
use Rattle.replica_state.proofs.reader.Stored.rights_of_all.Goals as goal

pub returns : goal.returns
returns g c =
    let held = g.Self.Stored.held c.args.self.now in
    fill_by_all (rights_of_key held.key held.number c.args.term) c.loop-node.into (length c.args.into.now) (pos 0)
    c.loop-node.invariant.len (λ k low. c.loop-node.invariant.read k (omega arith))
