use Rattle.std.proofs.Common.{◌≡◌, ℕ, ◌<◌, length, get_or}
use Rattle.operations.specs.declared.counted.Counted.TheVariants.{Hits}
use Rattle.replica_state.proofs.reader.Stored.hits_of_all.Given as goal

abbrev pub invariant-loop-node : goal.invariant-loop-node
invariant-loop-node g l =
    record {
      len : length l.into ≡ length l.initial.into;
      read : (k : ℕ) → k < l.node → get_or l.into k 0 ≡ (g.Self.Stored.held l.self).number (Hits k);
    }
