use Rattle.std.proofs.Common.{◌≡◌, ℕ, ap, ◌∙◌, arith}
use Rattle.counters.specs.Sums.{sum_below}
use Rattle.op_set.specs.Counts.{number_of}
use Rattle.operations.specs.declared.counted.Counted.TheVariants.{Hits}
use Rattle.op_set.proofs.NodeSums.{sum_counted}
use Rattle.op_set.proofs.budget.sum_hits.Goals as goal

pub returns : goal.returns
returns c =
    let f = λ (node : ℕ). number_of c.args.counts.now (Hits node) in
    let bound = c.nodes_counted-node-end.ensures in
    let end : c.loop-node.node ≡ c.nodes_counted-node-end.result =
    omega (arith, c.loop-node-test.false, c.loop-node.auto.node-end) in
    c.loop-node.invariant.value ∙ ap (λ n. sum_below n f) end
    ∙ sum_counted c.nodes_counted-node-end.result bound.small f (λ i some. bound.above (Hits i) some)
