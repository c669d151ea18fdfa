use Rattle.std.proofs.Common.{◌≡◌, ℕ, ap, ◌∙◌, arith}
use Rattle.counters.specs.Sums.{sum_others}
use Rattle.op_set.specs.Counts.{number_of}
use Rattle.operations.specs.declared.counted.Counted.TheVariants.{Shifts}
use Rattle.op_set.proofs.NodeSums.{others_counted}
use Rattle.op_set.proofs.budget.sum_from.Goals as goal

pub returns-clause-value : goal.returns-clause-value
returns-clause-value c =
    let f = λ (node : ℕ). number_of c.args.counts.now (Shifts c.args.term c.args.from node) in
    let bound = c.nodes_counted-node-end.ensures in
    let end : c.loop-node.node ≡ c.nodes_counted-node-end.result =
    omega (arith, c.loop-node-test.false, c.loop-node.auto.node-end) in
    c.loop-node.invariant.value ∙ ap (λ n. sum_others n c.args.from f) end
    ∙ others_counted c.nodes_counted-node-end.result bound.small f
    (λ i some. let most = bound.above (Shifts c.args.term c.args.from i) some in omega (arith, most)) c.args.from
