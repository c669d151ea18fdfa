use Rattle.std.proofs.Common.{List, inr, ap, ◌∙◌, refl, sym, subst, map}
use Rattle.std.specs.List.{list_any, flat_map}
use Rattle.node_steps.specs.Replicas.{state_in}
use Rattle.node_core.specs.Replicas.{value_in}
use Rattle.replica_state.specs.Folds.{clock_of}
use Rattle.message_format.specs.declared.message.NameEntry.{NameEntry}
use Rattle.message_format.specs.Messages.{message_value, entry_value, operations_of, operations_in}
use Rattle.replica_state.specs.States.{State}
use Rattle.delta_exchange.specs.News.{Brings}
use Rattle.node_core.specs.Traces.{kept_of}
use Rattle.node_core.proofs.DeliverRefusals.{Checked, FindsOwn, FindsExecutions, refused_ahead, refused_ack, refused_overspent, refused_many, delivery_accepted, delivery_is, reached}
use Rattle.node_core.proofs.node.NodeCore.deliver_checked.Goals as goal

pub returns-then-is_message_ahead-clause-refused : goal.returns-then-is_message_ahead-clause-refused
returns-then-is_message_ahead-clause-refused c =
    let node = c.self.inside in
    let k = kept_of node.config node.history.calls in
    let value = value_in node.replica in
    let checked : Checked k node.clock value.version value.state c.args.bytes.now
    (message_value c.in_ok-message.message) =
    record {
      step = c.self.invariant.0;
      room = rw (← c.self.view_is) at c.in_ok-check_trace.ensures.ok;
      read =
          c.in_ok-message.ensures.ok;
      spelled = c.in_ok-message.ensures.spelled;
      mine = c.if-message-self.false;
    } in
    let own : FindsOwn k value.state (message_value c.in_ok-message.message) c.is_message_ahead.result =
    record { is = rw c.state.ensures at c.is_message_ahead.ensures } in
    inr (rw (← c.self.view_is) (refused_ahead checked own c.if-is_message_ahead.true))

pub returns-then-message-version-clause-refused : goal.returns-then-message-version-clause-refused
returns-then-message-version-clause-refused c =
    let node = c.self.inside in
    let k = kept_of node.config node.history.calls in
    let value = value_in node.replica in
    let checked : Checked k node.clock value.version value.state c.args.bytes.now
    (message_value c.in_ok-message.message) =
    record {
      step = c.self.invariant.0;
      room = rw (← c.self.view_is) at c.in_ok-check_trace.ensures.ok;
      read =
          c.in_ok-message.ensures.ok;
      spelled = c.in_ok-message.ensures.spelled;
      mine = c.if-message-self.false;
    } in
    let own : FindsOwn k value.state (message_value c.in_ok-message.message) c.is_message_ahead.result =
    record { is = rw c.state.ensures at c.is_message_ahead.ensures } in
    inr (rw (← c.self.view_is) (refused_ack checked own c.if-is_message_ahead.false
    (rw c.version.ensures at c.if-message-version.true)))

pub returns-then-is_any_overspent-clause-refused : goal.returns-then-is_any_overspent-clause-refused
returns-then-is_any_overspent-clause-refused c =
    let node = c.self.inside in
    let k = kept_of node.config node.history.calls in
    let value = value_in node.replica in
    let checked : Checked k node.clock value.version value.state c.args.bytes.now
    (message_value c.in_ok-message.message) =
    record {
      step = c.self.invariant.0;
      room = rw (← c.self.view_is) at c.in_ok-check_trace.ensures.ok;
      read =
          c.in_ok-message.ensures.ok;
      spelled = c.in_ok-message.ensures.spelled;
      mine = c.if-message-self.false;
    } in
    let own : FindsOwn k value.state (message_value c.in_ok-message.message) c.is_message_ahead.result =
    record { is = rw c.state.ensures at c.is_message_ahead.ensures } in
    let executions : FindsExecutions k value.state (state_in c.in_ok-received.received)
    (message_value c.in_ok-message.message) c.is_any_overspent.result =
    record {
      entries = c.in_ok-message.message.entries.items;
      are = refl;
      brings = c.in_ok-received.ensures;
      is =
          rw c.state-2.ensures at (c.is_any_overspent.ensures ∙ ap (list_any _) c.deref.ensures.value);
    } in
    inr (rw (← c.self.view_is) (refused_overspent checked own c.if-is_message_ahead.false
    (rw c.version.ensures at c.if-message-version.false) executions c.if-is_any_overspent.true))

pub returns-then-names_together-gt-MAX_NAMES-clause-refused :
    goal.returns-then-names_together-gt-MAX_NAMES-clause-refused
returns-then-names_together-gt-MAX_NAMES-clause-refused c =
    let node = c.self.inside in
    let k = kept_of node.config node.history.calls in
    let value = value_in node.replica in
    let checked : Checked k node.clock value.version value.state c.args.bytes.now
    (message_value c.in_ok-message.message) =
    record {
      step = c.self.invariant.0;
      room = rw (← c.self.view_is) at c.in_ok-check_trace.ensures.ok;
      read =
          c.in_ok-message.ensures.ok;
      spelled = c.in_ok-message.ensures.spelled;
      mine = c.if-message-self.false;
    } in
    let own : FindsOwn k value.state (message_value c.in_ok-message.message) c.is_message_ahead.result =
    record { is = rw c.state.ensures at c.is_message_ahead.ensures } in
    let executions : FindsExecutions k value.state (state_in c.in_ok-received.received)
    (message_value c.in_ok-message.message) c.is_any_overspent.result =
    record {
      entries = c.in_ok-message.message.entries.items;
      are = refl;
      brings = c.in_ok-received.ensures;
      is =
          rw c.state-2.ensures at (c.is_any_overspent.ensures ∙ ap (list_any _) c.deref.ensures.value);
    } in
    inr (rw (← c.self.view_is) (refused_many checked own c.if-is_message_ahead.false
    (rw c.version.ensures at c.if-message-version.false) executions
    c.if-is_any_overspent.false (rw c.state-3.ensures at c.names_together.ensures)
    c.if-names_together-gt-MAX_NAMES.true))

pub returns-clause-ok : goal.returns-clause-ok
returns-clause-ok c =
    let node = c.self.inside in
    let k = kept_of node.config node.history.calls in
    let value = value_in node.replica in
    let checked : Checked k node.clock value.version value.state c.args.bytes.now
    (message_value c.in_ok-message.message) =
    record {
      step = c.self.invariant.0;
      room = rw (← c.self.view_is) at c.in_ok-check_trace.ensures.ok;
      read =
          c.in_ok-message.ensures.ok;
      spelled = c.in_ok-message.ensures.spelled;
      mine = c.if-message-self.false;
    } in
    let own : FindsOwn k value.state (message_value c.in_ok-message.message) c.is_message_ahead.result =
    record { is = rw c.state.ensures at c.is_message_ahead.ensures } in
    let executions : FindsExecutions k value.state (state_in c.in_ok-received.received)
    (message_value c.in_ok-message.message) c.is_any_overspent.result =
    record {
      entries = c.in_ok-message.message.entries.items;
      are = refl;
      brings = c.in_ok-received.ensures;
      is =
          rw c.state-2.ensures at (c.is_any_overspent.ensures ∙ ap (list_any _) c.deref.ensures.value);
    } in
    rw (← c.self.view_is) (delivery_accepted checked own c.if-is_message_ahead.false
    (rw c.version.ensures at c.if-message-version.false) executions
    c.if-is_any_overspent.false (rw c.state-3.ensures at c.names_together.ensures)
    c.if-names_together-gt-MAX_NAMES.false)

pub returns-clause-delivery : goal.returns-clause-delivery
returns-clause-delivery c =
    let node = c.self.inside in
    let k = kept_of node.config node.history.calls in
    let value = value_in node.replica in
    let checked : Checked k node.clock value.version value.state c.args.bytes.now
    (message_value c.in_ok-message.message) =
    record {
      step = c.self.invariant.0;
      room = rw (← c.self.view_is) at c.in_ok-check_trace.ensures.ok;
      read =
          c.in_ok-message.ensures.ok;
      spelled = c.in_ok-message.ensures.spelled;
      mine = c.if-message-self.false;
    } in
    let own : FindsOwn k value.state (message_value c.in_ok-message.message) c.is_message_ahead.result =
    record { is = rw c.state.ensures at c.is_message_ahead.ensures } in
    let executions : FindsExecutions k value.state (state_in c.in_ok-received.received)
    (message_value c.in_ok-message.message) c.is_any_overspent.result =
    record {
      entries = c.in_ok-message.message.entries.items;
      are = refl;
      brings = c.in_ok-received.ensures;
      is =
          rw c.state-2.ensures at (c.is_any_overspent.ensures ∙ ap (list_any _) c.deref.ensures.value);
    } in
    rw (← c.self.view_is) (record {
      is_read = c.in_ok-message.ensures.ok;
      spelled = c.in_ok-message.ensures.spelled;
      received = subst (λ (v : State). Brings v (state_in c.in_ok-received.received)
          (operations_in (message_value c.in_ok-message.message))) (sym c.self.invariant.0.0.state_is)
          c.in_ok-received.ensures;
      reached = reached checked own c.if-is_message_ahead.false (rw c.version.ensures at c.if-message-version.false)
          executions;
      delivery = delivery_is checked own c.if-is_message_ahead.false
          (rw c.version.ensures at c.if-message-version.false) executions
          c.if-is_any_overspent.false (rw c.state-3.ensures at c.names_together.ensures)
          c.if-names_together-gt-MAX_NAMES.false
          c.latest_clock.result (c.latest_clock.ensures ∙ ap
          (λ (es : List NameEntry). clock_of (flat_map operations_of (map entry_value es)))
          c.deref-2.ensures.value);
    })
