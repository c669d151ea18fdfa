use Rattle.std.proofs.Common.{◌≡◌, take}
use Rattle.std.specs.Prelude.{slice_index}
use Rattle.sharing.specs.Shares.{line_of}
use Rattle.sharing.proofs.line.put_in_line.Given as goal

abbrev pub invariant-loop-node : goal.invariant-loop-node
invariant-loop-node l = l.line.items ≡ line_of (slice_index l.executions) (take l.node-index l.nodes)
