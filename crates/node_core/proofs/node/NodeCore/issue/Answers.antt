use Rattle.node_core.proofs.VersionsInStep.{entries_with, few_calls, set_with, key_above}
use Rattle.node_core.specs.Traces.{kept_of}
use Rattle.node_core.specs.Replicas.{value_in}
use Rattle.stamp_register.specs.Keys.{body_value}
use Rattle.node_core.proofs.node.NodeCore.issue.Goals as goal

pub invariant_of-self-2 : goal.invariant_of-self-2
invariant_of-self-2 c =
    let node = c.self.inside in
    let k = kept_of node.config node.history.calls in
    let room = rw (← c.self.view_is) at c.requires.room in
    let setting = rw (← c.self.view_is) at c.requires.setting in
    let clocks = rw (← c.self.view_is) at c.requires.clock in
    let few = rw (← c.self.view_is) at c.requires.few in
    entries_with node.config _ _ node.history.calls _ c.push_entry.new.self.calls _ c.push_entry.ensures.calls
    c.in_default.ensures.calls
    (set_with k node.clock (value_in node.replica) _ _ c.self.invariant
    {name = c.args.point} {body = body_value c.args.body} (record {
      room = room;
      drawn = c.requires.words;
      setting = setting;
      clocks = clocks;
      named = c.requires.named;
      bodied = c.requires.body;
      place = few;
    })
    c.in_default-set_key.ensures.ok)

pub set_key-requires-clause-above : goal.set_key-requires-clause-above
set_key-requires-clause-above c =
    let node = c.self.inside in
    key_above (kept_of node.config node.history.calls) node.clock (value_in node.replica) c.self.invariant c.args.point
    (body_value c.args.body)

pub push_entry-requires-clause-few : goal.push_entry-requires-clause-few
push_entry-requires-clause-few c =
    let node = c.self.inside in
    let room = rw (← c.self.view_is) at c.requires.room in
    few_calls node.config node.clock (value_in node.replica) node.history.calls _ c.self.invariant room
    c.in_default.ensures.calls
