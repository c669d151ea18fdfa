use Rattle.std.proofs.Common.{◌≡◌, ◌+◌}
use Rattle.node_registry.specs.Seats.{amount_of}
use Rattle.node_registry.proofs.guarded.add_calls.Given as goal

abbrev pub invariant-loop : goal.invariant-loop
invariant-loop g l = record {
  total : l.counted.total ≡ l.initial.counted.total + amount_of l.counter 0;
  amount : l.share.amount ≡ l.initial.share.amount + amount_of l.counter 0;
  parts : l.share.parts ≡ l.initial.share.parts;
}
