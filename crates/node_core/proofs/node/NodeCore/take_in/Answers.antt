use Rattle.std.proofs.Common.{refl, sym, subst, string_bytes, ◌∙◌, ap, List}
use Rattle.std.specs.List.{AllByRecursion}
use Rattle.operations.specs.Operations.{Operation, IsWellFormed}
use Rattle.node_steps.proofs.LoadSteps.{issued_formed, issued_stay}
use Rattle.node_core.proofs.VersionsInStep.{entries_with, few_calls, load_with}
use Rattle.node_calls.specs.Asks.{Load}
use Rattle.node_steps.specs.Settings.{operations_issued, settings}
use Rattle.node_core.specs.Traces.{kept_of, last_clock}
use Rattle.node_core.specs.Replicas.{value_in}
use Rattle.node_core.proofs.node.NodeCore.take_in.Goals as goal

pub issue-requires-clause-formed : goal.issue-requires-clause-formed
issue-requires-clause-formed c =
    subst (λ (ops : List Operation). AllByRecursion IsWellFormed ops) (sym c.requires.ops)
    (issued_formed c.args.self.now.config.node (last_clock c.args.self.now)
    (settings (Load (string_bytes c.args.text))))

pub issue-requires-clause-others : goal.issue-requires-clause-others
issue-requires-clause-others c =
    issued_stay c.args.self.now.config.node (last_clock c.args.self.now) (settings (Load (string_bytes c.args.text)))
    c.args.ops.now c.requires.ops

pub invariant_of-self-2 : goal.invariant_of-self-2
invariant_of-self-2 c =
    let node = c.self.inside in
    let k = kept_of node.config node.history.calls in
    let room = rw (← c.self.view_is) at c.requires.room in
    let ops = rw (← c.self.view_is) at c.requires.ops in
    let clocks = rw (← c.self.view_is) at c.requires.clock in
    let few = rw (← c.self.view_is) at c.requires.few in
    entries_with node.config _ _ node.history.calls _ c.push_entry.new.self.calls _ c.push_entry.ensures.calls
    c.in_ok-reserve_entry.ensures.calls
    (load_with k node.clock (value_in node.replica) _ _ c.self.invariant
    {text = string_bytes c.args.text} {entries = c.args.entries} (record {
      room = room;
      asks = refl;
      drawn = c.new.ensures.items;
      count = c.requires.entries;
      clocks = clocks;
      each = c.requires.tellable;
      places = few;
    })
    c.from.ensures
    (ops ∙ ap (λ at. operations_issued node.config.node at (settings (Load (string_bytes c.args.text))))
    c.self.invariant.0.0.clock_is)
    c.in_ok-issue.ensures.ok)

pub push_entry-requires-clause-few : goal.push_entry-requires-clause-few
push_entry-requires-clause-few c =
    let node = c.self.inside in
    let room = rw (← c.self.view_is) at c.requires.room in
    few_calls node.config node.clock (value_in node.replica) node.history.calls _ c.self.invariant room
    c.in_ok-reserve_entry.ensures.calls
