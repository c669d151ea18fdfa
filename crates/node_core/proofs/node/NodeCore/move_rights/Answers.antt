use Rattle.std.proofs.Common.{subst}
use Rattle.std.specs.Option.{IsSome}
use Rattle.replica_state.specs.States.{State, budget_of}
use Rattle.node_steps.proofs.Rights.{counted_by_rights}
use Rattle.node_core.proofs.ShiftSteps.{shift_moves, may_shift}
use Rattle.node_core.proofs.VersionsInStep.{entries_with, few_calls, moved_with}
use Rattle.node_calls.specs.Asks.{Shift}
use Rattle.node_core.specs.Traces.{kept_of, state_known}
use Rattle.node_core.specs.Replicas.{value_in}
use Rattle.node_core.proofs.node.NodeCore.move_rights.Goals as goal

pub count_shift-requires-clause-counted : goal.count_shift-requires-clause-counted
count_shift-requires-clause-counted c =
    let node = c.self.inside in
    let k = kept_of node.config node.history.calls in
    let enough = rw (← c.self.view_is) at c.requires.enough in
    let there = rw (← c.self.view_is) at c.requires.there in
    subst (λ (v : State). IsSome (budget_of v c.args.point c.args.term)) c.self.invariant.1.state_is
    (counted_by_rights (state_known k) c.args.point c.args.term node.config.node c.args.amount there.1 enough.1)

pub invariant_of-self-2 : goal.invariant_of-self-2
invariant_of-self-2 c =
    let node = c.self.inside in
    let k = kept_of node.config node.history.calls in
    let room = rw (← c.self.view_is) at c.requires.room in
    let set = rw (← c.self.view_is) at c.requires.set in
    let enough = rw (← c.self.view_is) at c.requires.enough in
    let there = rw (← c.self.view_is) at c.requires.there in
    let total = rw (← c.self.view_is) at c.requires.total in
    entries_with node.config _ _ node.history.calls _ c.push_entry.new.self.calls _ c.push_entry.ensures.calls
    c.in_ok-reserve_entry.ensures.calls
    (moved_with k node.clock (value_in node.replica) _ _ c.self.invariant
    {ask = Shift c.args.point c.args.term c.args.to c.args.amount} (record {
      room = room;
      asks = λ i. Shift (c.into_text.ensures i) c.args.term c.args.to c.args.amount;
      drawn = c.new.ensures.items;
      moves = shift_moves node.config.node c.args.point c.args.term c.args.to c.args.amount;
      set = set;
      may = may_shift node.config (state_known k) c.args.point c.args.term c.args.to c.args.amount enough there;
      low = c.ranges.term.fits;
      sum = total;
    })
    c.in_ok-count_shift.ensures.ok)

pub push_entry-requires-clause-few : goal.push_entry-requires-clause-few
push_entry-requires-clause-few c =
    let node = c.self.inside in
    let room = rw (← c.self.view_is) at c.requires.room in
    few_calls node.config node.clock (value_in node.replica) node.history.calls _ c.self.invariant room
    c.in_ok-reserve_entry.ensures.calls
