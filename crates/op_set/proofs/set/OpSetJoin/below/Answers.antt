use Rattle.std.proofs.Common.{refl, sym, ◌∙◌}
use Rattle.std.proofs.lemmas.Bool.{true≢false}
use Rattle.op_set.specs.SetOrder.{state_of}
use Rattle.op_set.proofs.SetJoins.{below-step, below-end, below-fails}
use Rattle.op_set.proofs.set.OpSetJoin.below.Goals as goal

pub loop-name-preserved : goal.loop-name-preserved
loop-name-preserved c =
    let before = rw c.in-Some.ensures.steps at c.loop-name.invariant in
    below-step c.args.self.now.points c.next.new.self (state_of c.args.other.now) c.in-Some.name.now c.in-Some.point.now
    before (c.is_above.ensures.0 c.if-not-is_above.false)

pub returns-then-not-is_above-clause-value : goal.returns-then-not-is_above-clause-value
unfolding state_of
returns-then-not-is_above-clause-value c =
    let before = rw c.in-Some.ensures.steps at c.loop-name.invariant in (
      λ h. absurd (true≢false (sym h)),
      λ below. absurd (below-fails c.args.self.now.points c.next.new.self (state_of c.args.other.now) c.in-Some.name.now
          c.in-Some.point.now before (λ h. true≢false (sym (c.is_above.ensures.1 h) ∙ c.if-not-is_above.true)) below),
    )

pub returns-clause-value : goal.returns-clause-value
unfolding state_of
returns-clause-value c =
    let before = rw c.in-None.ensures.steps.0 at c.loop-name.invariant in
    (λ _. below-end c.args.self.now.points (state_of c.args.other.now) before, λ _. refl)
