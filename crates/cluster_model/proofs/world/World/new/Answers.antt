use Rattle.std.proofs.Common.{◌≡◌, ◌≤◌, ◌∙◌, ap, arith, map}
use Rattle.std.proofs.lemmas.Grind.{common_steps}
use Rattle.std.proofs.lemmas.Bool.Decides.{nat_tests}
use Rattle.std.proofs.lemmas.List.FromFn.{map-range_with_len_more}
use Rattle.std.specs.List.{range_with_len}
use Rattle.message_format.specs.Limits.{max_nodes}
use Rattle.cluster_model.specs.Worlds.{Cluster}
use Rattle.cluster_model.specs.Events.{new_node}
use Rattle.cluster_model.proofs.NewWorlds.{new_is_world, new_is, new_history}
use Rattle.cluster_model.proofs.world.World.new.Goals as goal

pub loop-node-preserved : goal.loop-node-preserved
loop-node-preserved c =
    let more = map-range_with_len_more (new_node (record { nodes = c.args.nodes; trace_cap = c.args.trace_cap })) 0
    c.loop-node.node c.loop-node.node (omega arith) in
    record {
      made = grind (arith, common_steps, more);
      few = λ some. let good = c.in_ok-core.ensures.good in grind (arith, nat_tests);
    }

pub invariant_of-result : goal.invariant_of-result
invariant_of-result c =
    let past = c.loop-node-test.false in
    let last = c.loop-node.auto.node-end in
    let all : c.loop-node.node ≡ c.args.nodes = omega (arith, past, last) in
    let cluster : Cluster = record { nodes = c.args.nodes; trace_cap = c.args.trace_cap } in
    new_is_world cluster c.loop-node.cores.items c.new-2.result.items
    (c.loop-node.invariant.made ∙ ap (λ n. map (new_node cluster) (range_with_len 0 n)) all) c.new-2.ensures.items

pub returns-clause-ok : goal.returns-clause-ok
returns-clause-ok c =
    let past = c.loop-node-test.false in
    let last = c.loop-node.auto.node-end in
    let all : c.loop-node.node ≡ c.args.nodes = omega (arith, past, last) in
    let cluster : Cluster = record { nodes = c.args.nodes; trace_cap = c.args.trace_cap } in
    new_is cluster c.loop-node.cores.items c.new-2.result.items
    (c.loop-node.invariant.made ∙ ap (λ n. map (new_node cluster) (range_with_len 0 n)) all) c.new-2.ensures.items

pub returns-clause-history : goal.returns-clause-history
returns-clause-history c =
    let past = c.loop-node-test.false in
    let last = c.loop-node.auto.node-end in
    let some = c.if-nodes-eq0.false in
    let all : c.loop-node.node ≡ c.args.nodes = omega (arith, past, last) in
    let few : c.args.nodes ≤ max_nodes = c.loop-node.invariant.few (omega (arith, past, some)) in
    let cluster : Cluster = record { nodes = c.args.nodes; trace_cap = c.args.trace_cap } in
    new_history cluster c.loop-node.cores.items c.new-2.result.items
    (c.loop-node.invariant.made ∙ ap (λ n. map (new_node cluster) (range_with_len 0 n)) all) c.new-2.ensures.items
    few

pub returns-clause-size : goal.returns-clause-size
returns-clause-size c =
    let past = c.loop-node-test.false in
    let some = c.if-nodes-eq0.false in
    let few : c.args.nodes ≤ max_nodes = c.loop-node.invariant.few (omega (arith, past, some)) in
    grind (arith, nat_tests)
