use Rattle.std.proofs.Common.{◌≡◌, map, take}
use Rattle.std.specs.List.{flat_map}
use Rattle.replica_state.specs.Folds.{fold}
use Rattle.message_format.specs.Messages.{entry_value, operations_of}
use Rattle.delta_exchange.proofs.learning.replica_of.Given as goal

abbrev pub invariant-loop-entry : goal.invariant-loop-entry
invariant-loop-entry g l = g.R.Replica.state l.replica ≡ fold
    (flat_map operations_of (map entry_value (take l.entry-index l.message.entries.items)))
