use Rattle.std.proofs.Common.{◌≡◌, ℕ, ◌<◌, length, get_or, pos}
use Rattle.replica_state.specs.Points.{rights_of_key}
use Rattle.replica_state.proofs.reader.Stored.rights_of_all.Given as goal

abbrev pub invariant-loop-node : goal.invariant-loop-node
invariant-loop-node g l =
    record {
      len : length l.into ≡ length l.initial.into;
      read : (k : ℕ) → k < l.node → get_or l.into k (pos 0)
          ≡ rights_of_key (g.Self.Stored.held l.self).key (g.Self.Stored.held l.self).number l.term k;
    }
