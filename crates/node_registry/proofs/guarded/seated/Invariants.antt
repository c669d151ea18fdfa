use Rattle.std.proofs.Common.{◌≡◌, ◌+◌, ◌≤◌, vec_len, vec_capacity}
use Rattle.std.specs.Prelude.{All}
use Rattle.node_registry.specs.Seats.{new_seat}
use Rattle.node_registry.proofs.guarded.seated.Given as goal

abbrev pub invariant-loop : goal.invariant-loop
invariant-loop g l = record {
  parts : l.rest.parts + l.counter ≡ l.fn.seats;
  amount : l.rest.amount ≡ 0;
  room : l.fn.seats ≤ vec_capacity l.all;
  len : vec_len l.all ≡ l.counter;
  none : All (λ seat. seat ≡ new_seat) l.all.items;
}
