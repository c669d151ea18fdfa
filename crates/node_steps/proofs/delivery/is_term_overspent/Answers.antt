use Rattle.std.proofs.Common.{◌≡◌, ℕ, ◌+◌, Bool, true, nat_lt, sym, ◌∙◌, ap, arith}
use Rattle.std.proofs.lemmas.Bool.Decides.{nat_tests}
use Rattle.operations.specs.Operations.{count_at}
use Rattle.node_steps.specs.Replicas.{point_held}
use Rattle.node_steps.specs.Refusals.{exceeds_count}
use Rattle.node_steps.specs.Received.{execs_both, granted_both}
use Rattle.node_steps.proofs.Overspent.{any_true}
use Rattle.node_steps.proofs.delivery.is_term_overspent.Goals as goal

pub returns-then-spent-count-2 : goal.returns-then-spent-count-2
returns-then-spent-count-2 c =
    let granted : ℕ → ℕ = granted_both c.args.nodes c.args.order (point_held c.args.held)
    (point_held c.args.received) in
    let sum : ℕ → ℕ = execs_both c.args.nodes c.args.order (point_held c.args.held) (point_held c.args.received) in
    let test : ℕ → Bool = λ term. exceeds_count (count_at c.args.actions.now term) (granted term) (sum term) in
    let low = c.if-spent-count-2.true in
    let same = c.from-count.ensures in
    let all = c.execs_both-spent.ensures in
    let more = c.granted_both.ensures.value in
    let above : nat_lt (c.in-Some.count + granted c.loop-term.term) (sum c.loop-term.term) ≡ true =
    grind (arith, nat_tests, low, same, all, more) in
    let upto = c.len-term-end.ensures.value in
    let before = c.loop-term-test.true in
    sym (any_true _ c.loop-term.term test (omega (arith, upto, before))
    (ap (λ o. exceeds_count o (granted c.loop-term.term) (sum c.loop-term.term))
    (sym c.count_at.ensures ∙ c.in-Some.is) ∙ above))
