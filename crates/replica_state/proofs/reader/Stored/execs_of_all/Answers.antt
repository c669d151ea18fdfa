use Rattle.std.proofs.Common.{length, arith}
use Rattle.std.proofs.lemmas.List.FromFn.{fill_by_all}
use Rattle.operations.specs.declared.counted.Counted.TheVariants.{Execs}
use Rattle.replica_state.proofs.reader.Stored.execs_of_all.Goals as goal

pub returns : goal.returns
returns g c =
    let held = g.Self.Stored.held c.args.self.now in
    fill_by_all (λ k. held.number (Execs c.args.term k)) c.loop-node.into (length c.args.into.now) 0
    c.loop-node.invariant.len (λ k low. c.loop-node.invariant.read k (omega arith))
