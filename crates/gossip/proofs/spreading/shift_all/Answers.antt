use Rattle.std.proofs.Common.{◌≤◌, ℕ, ◌+◌, List, ◌∙◌, refl, arith}
use Rattle.std.specs.List.{slice_index}
use Rattle.node_calls.specs.Asks.{Asked}
use Rattle.gossip.specs.Spreads.{shifts_below, shifts_in}
use Rattle.gossip.proofs.StepLemmas.{adds_none, adds_turn, adds_turns, length_turn}
use Rattle.gossip.proofs.spreading.shift_all.Goals as goal

pub loop-term-init : goal.loop-term-init
unfolding shifts_in
loop-term-init g c = record {
  adds = adds_none _ _ _ _ _ _ _ refl refl refl refl refl refl refl refl;
  emitted = refl;
  delivered = refl;
  tried = omega arith;
  few = omega (arith, c.requires.few);
}

pub returns-in_err-shift_term-clause-adds : goal.returns-in_err-shift_term-clause-adds
unfolding shifts_in
returns-in_err-shift_term-clause-adds g c =
    let config = g.L.Label.config in
    let shifts : ℕ → List Asked = λ term. shifts_below config c.args.name.now term
    (slice_index c.args.shares.now.amounts term) config.nodes in
    let within : c.loop-term.term + 1 ≤ 16 = omega (arith, c.loop-term-test.true) in
    adds_turns shifts (c.loop-term.term + 1) 16 within
    (adds_turn shifts c.loop-term.term c.loop-term.invariant.adds c.shift_term.ensures.adds)

pub loop-term-preserved : goal.loop-term-preserved
unfolding shifts_in
loop-term-preserved g c =
    let config = g.L.Label.config in
    let shifts : ℕ → List Asked = λ term. shifts_below config c.args.name.now term
    (slice_index c.args.shares.now.amounts term) config.nodes in
    let was = c.loop-term.invariant in
    record {
      adds = adds_turn shifts c.loop-term.term was.adds c.shift_term.ensures.adds;
      emitted = c.shift_term.ensures.emitted ∙ was.emitted;
      delivered = c.shift_term.ensures.delivered ∙ was.delivered;
      tried = omega (arith, was.tried, length_turn shifts c.loop-term.term, c.in_ok-shift_term.ensures.tried);
      few = omega (arith, was.few, c.shift_term.ensures.few);
    }
