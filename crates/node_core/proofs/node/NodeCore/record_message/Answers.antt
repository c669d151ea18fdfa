use Rattle.std.proofs.Common.{refl}
use Rattle.node_core.proofs.VersionsInStep.{entries_with, few_calls, emit_with}
use Rattle.node_calls.specs.Asks.{message_read}
use Rattle.node_core.specs.Traces.{kept_of}
use Rattle.node_core.specs.Replicas.{value_in}
use Rattle.node_core.proofs.node.NodeCore.record_message.Goals as goal

pub invariant_of-self-2 : goal.invariant_of-self-2
invariant_of-self-2 c =
    let node = c.self.inside in
    let k = kept_of node.config node.history.calls in
    let room = rw (← c.self.view_is) at c.requires.room in
    entries_with node.config _ _ node.history.calls _ c.push_entry.new.self.calls _ c.push_entry.ensures.calls
    c.in_ok-reserve_entry.ensures.calls
    (emit_with k node.clock (value_in node.replica) _ c.self.invariant c.args.to
    (message_read node.config.nodes c.args.message.items)
    (record { room = room; asks = refl; drawn = c.new.ensures.items }))

pub push_entry-requires-clause-few : goal.push_entry-requires-clause-few
push_entry-requires-clause-few c =
    let node = c.self.inside in
    let room = rw (← c.self.view_is) at c.requires.room in
    few_calls node.config node.clock (value_in node.replica) node.history.calls _ c.self.invariant room
    c.in_ok-reserve_entry.ensures.calls
