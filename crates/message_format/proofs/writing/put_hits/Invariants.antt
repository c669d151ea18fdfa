use Rattle.std.proofs.Common.{◌≡◌, ◌++◌, take}
use Rattle.std.specs.List.{flat_map}
use Rattle.message_format.specs.Spelling.{hit_bytes}
use Rattle.message_format.proofs.writing.put_hits.Given as goal

abbrev pub invariant-loop-node : goal.invariant-loop-node
invariant-loop-node l = l.out.items ≡ l.initial.out.items ++ flat_map hit_bytes (take l.node-index l.hits)
