use Rattle.std.proofs.Common.{refl, subst}
use Rattle.message_format.specs.Messages.{message_value, operations_in}
use Rattle.replica_state.specs.States.{State}
use Rattle.delta_exchange.specs.News.{Brings}
use Rattle.node_core.proofs.VersionsInStep.{entries_with, few_calls, deliver_with}
use Rattle.node_calls.specs.Asks.{message_read}
use Rattle.node_core.specs.Traces.{kept_of}
use Rattle.node_steps.specs.Replicas.{state_in}
use Rattle.node_core.specs.Replicas.{value_in}
use Rattle.node_core.proofs.node.NodeCore.learn.Goals as goal

pub invariant_of-self-2 : goal.invariant_of-self-2
invariant_of-self-2 c =
    let node = c.self.inside in
    let k = kept_of node.config node.history.calls in
    let room = rw (← c.self.view_is) at c.requires.room in
    let told = rw (← c.self.view_is) at c.requires.delivery in
    entries_with node.config _ _ node.history.calls _ c.push_entry.new.self.calls _ c.push_entry.ensures.calls
    c.in_ok-reserve_entry.ensures.calls
    (deliver_with k node.clock (value_in node.replica) _ _ c.self.invariant
    {read = message_read node.config.nodes c.args.bytes.items} {m = message_value c.args.delivery.message}
    (record {
      takes = record { room = room; asks = refl; drawn = c.new.ensures.items; delivery = told.delivery };
      was = told.is_read;
      reached = told.reached;
    })
    c.in_ok-changed.ensures.changed c.in_ok-changed.ensures.ok c.max-self-inside.ensures)

pub receive_replica-requires-clause-received : goal.receive_replica-requires-clause-received
receive_replica-requires-clause-received c =
    let told = rw (← c.self.view_is) at c.requires.delivery in
    subst (λ (v : State). Brings v (state_in c.args.delivery.received)
    (operations_in (message_value c.args.delivery.message))) c.self.invariant.0.0.state_is told.received

pub push_entry-requires-clause-few : goal.push_entry-requires-clause-few
push_entry-requires-clause-few c =
    let node = c.self.inside in
    let room = rw (← c.self.view_is) at c.requires.room in
    few_calls node.config node.clock (value_in node.replica) node.history.calls _ c.self.invariant room
    c.in_ok-reserve_entry.ensures.calls
