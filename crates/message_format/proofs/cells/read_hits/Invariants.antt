use Rattle.std.proofs.Common.{◌≡◌}
use Rattle.message_format.specs.Reading.{hit_at, hits_at}
use Rattle.message_format.proofs.Loop.{progress}
use Rattle.message_format.proofs.cells.read_hits.Given as goal

abbrev pub invariant-loop : goal.invariant-loop
invariant-loop l = progress (hit_at l.whole.len l.whole.nodes) l.hits.items l.count l.counter l.rest ≡ hits_at
    l.whole.len l.whole.nodes l.bytes
