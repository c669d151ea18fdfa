use Rattle.std.proofs.Common.{◌+◌, max, drop, ap, ◌∙◌, sym}
use Rattle.op_set.specs.declared.point.Point.{Point}
use Rattle.op_set.specs.Counts.{number_of}
use Rattle.replica_state.specs.Unions.{if_counts}
use Rattle.op_set.proofs.PointJoins.{count_learned, count_skipped}
use Rattle.op_set.proofs.point.Point.count_all.Goals.{then-counts_under+in_ok-count, else-counts_under}
use Rattle.op_set.proofs.point.Point.count_all.Goals as goal

pub loop-count-preserved : goal.loop-count-preserved
loop-count-preserved c = elim c.if-counts_under.branch [
  | then-counts_under+in_ok-count w ↦ record {
    key = ap (λ (p : Point). p.key) w.self-is ∙ w.in_ok-count.ensures.key ∙ c.loop-count.invariant.key;
    numbers = λ d. count_learned c.args.counts.now c.args.same_key _ c.loop-count.count-index c.loop-count-test.true d _
        _ (sym c.counts_under.ensures ∙ w.if-counts_under.true)
        (ap (λ (p : Point). number_of p.counts.items d) w.self-is ∙ w.in_ok-count.ensures.ok d) ∙
        c.loop-count.invariant.numbers d;
  }
  | else-counts_under w ↦ record {
    key = ap (λ (p : Point). p.key) w.self-is ∙ c.loop-count.invariant.key;
    numbers = λ d. ap (λ (p : Point). max (number_of p.counts.items d)
        (if_counts c.args.same_key d (number_of (drop (c.loop-count.count-index + 1) c.args.counts.now) d))) w.self-is ∙
        count_skipped c.args.counts.now c.args.same_key _ c.loop-count.count-index c.loop-count-test.true d _
        (sym c.counts_under.ensures ∙ w.if-counts_under.false) ∙ c.loop-count.invariant.numbers d;
  }
]
