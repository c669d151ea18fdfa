-- The message that a node makes to another, as a function of the node.
use Rattle.std.specs.Prelude.{ℕ}
use Rattle.message_format.specs.Messages.{MessageValue}
use Rattle.delta_exchange.specs.Differences.{difference_of}
use Rattle.node_core.specs.Traces.{Kept, node_of, state_known, versions_told}

-- it tells the versions, and the difference of the state at the version that its receiver is known to
-- have and the state now
abbrev pub message_emitted : Kept → ℕ → MessageValue
message_emitted k to =
    let n = node_of k in
    let told = versions_told n.marks to in
    let past = n.past told.base in
    difference_of past (state_known k) k.config.nodes k.config.node to told.base told.upto told.ack
