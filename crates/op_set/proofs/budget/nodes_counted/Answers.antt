use Rattle.std.proofs.Common.{◌≤◌, List, subst, arith}
use Rattle.std.specs.List.{AllByRecursion}
use Rattle.std.proofs.lemmas.List.{take_all}
use Rattle.op_set.specs.Counts.{node_bound}
use Rattle.operations.specs.declared.counted.Count.{Count}
use Rattle.operations.specs.declared.counted.Counted.TheVariants.{Hits}
use Rattle.op_set.proofs.NodeSums.{bound_of, bounds_next}
use Rattle.op_set.proofs.budget.nodes_counted.Goals as goal

pub loop-count-preserved : goal.loop-count-preserved
loop-count-preserved c =
    let counts = c.args.counts.now in
    let i = c.loop-count.count-index in
    let bound = c.node_bound.ensures in
    let is = c.max-nodes.ensures in
    record {
      below = bounds_next c.loop-count.nodes c.max-nodes.result counts i (record { counted = Hits 0; number = 0 })
          c.loop-count-test.true (omega (arith, is)) (omega (arith, is, bound.value)) c.loop-count.invariant.below;
      small = omega (arith, is, bound.small, c.loop-count.invariant.small);
    }

pub returns-clause-above : goal.returns-clause-above
returns-clause-above c =
    let all = subst (λ (cs : List Count). AllByRecursion (λ (x : Count). node_bound x.counted ≤ c.loop-count.nodes) cs)
    (take_all c.loop-count.count-index c.args.counts.now c.loop-count-test.false) c.loop-count.invariant.below in
    bound_of c.loop-count.nodes c.args.counts.now all
