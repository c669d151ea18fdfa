use Rattle.std.proofs.Common.{[], refl, sym, subst, ◌∙◌}
use Rattle.std.proofs.lemmas.Bool.{true≢false}
use Rattle.replica_state.specs.Points.{Held}
use Rattle.op_set.specs.Counts.{held_of}
use Rattle.op_set.specs.SetOrder.{state_of, no_points}
use Rattle.replica_state.specs.Unions.{IsHeldBelow}
use Rattle.op_set.proofs.Shown.{nothing_seen}
use Rattle.op_set.proofs.SetJoins.{below-step, below-end, below-fails}
use Rattle.op_set.proofs.set.OpSetJoin.is_bottom.Goals as goal

pub loop-point-preserved : goal.loop-point-preserved
unfolding state_of
loop-point-preserved c =
    let before = rw c.in-Some.ensures.steps at c.loop-point.invariant in
    let nothing = subst (λ (h : Held). IsHeldBelow (held_of c.in-Some.point.now) h)
    (nothing_seen [] c.in-Some.field-0-0.now refl) (c.is_nothing.ensures.0 c.if-not-is_nothing.false) in
    below-step c.args.self.now.points c.next.new.self (state_of no_points) c.in-Some.field-0-0.now c.in-Some.point.now
    before nothing

pub returns-then-not-is_nothing-clause-value : goal.returns-then-not-is_nothing-clause-value
unfolding state_of
returns-then-not-is_nothing-clause-value c =
    let before = rw c.in-Some.ensures.steps at c.loop-point.invariant in (
      λ h. absurd (true≢false (sym h)),
      λ below. absurd (below-fails c.args.self.now.points c.next.new.self (state_of no_points) c.in-Some.field-0-0.now
          c.in-Some.point.now before (λ h. true≢false (sym (c.is_nothing.ensures.1
          (subst (λ (g : Held). IsHeldBelow (held_of c.in-Some.point.now) g)
          (sym (nothing_seen [] c.in-Some.field-0-0.now refl)) h)) ∙ c.if-not-is_nothing.true)) below),
    )

pub returns-clause-value : goal.returns-clause-value
unfolding state_of
returns-clause-value c =
    let before = rw c.in-None.ensures.steps.0 at c.loop-point.invariant in
    (λ _. below-end c.args.self.now.points (state_of no_points) before, λ _. refl)
