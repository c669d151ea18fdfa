use Rattle.std.proofs.Common.{◌≡◌, ◌≢◌, ◌≤◌, ◌+◌, ap, sym, refl, arith}
use Rattle.node_calls.specs.Asks.{bare_emit}
use Rattle.gossip.proofs.RangeLemmas.{length_but, no_other_more, one_other_more, others_up_to}
use Rattle.gossip.proofs.StepLemmas.{adds_itself, adds_next, adds_none, adds_up_to, length_itself, length_next, length_up_to}
use Rattle.gossip.specs.Reports.{others_below}
use Rattle.gossip.proofs.CarryLemmas.{moves_as, moves_nothing, moves_then, on_err, stops_as, stops_before, stops_then}
use Rattle.gossip.proofs.rounds.tell.Goals as goal
use Rattle.gossip.proofs.rounds.tell.Goals.{then-to-node+in_ok-tell_one, else-to-node}

pub loop-to-init : goal.loop-to-init
loop-to-init g c = record {
  adds = adds_none _ _ _ _ _ _ _ refl refl refl refl refl refl refl refl;
  moves = moves_nothing refl refl refl refl refl refl;
  tried = omega arith;
  few = omega arith;
}

pub tell_one-requires : goal.tell_one-requires
tell_one-requires g c = omega (arith, c.loop-to.invariant.few, length_but bare_emit g.L.Label.config.node c.loop-to.to)

pub returns-in_err-tell_one-clause-adds : goal.returns-in_err-tell_one-clause-adds
returns-in_err-tell_one-clause-adds g c =
    let config = g.L.Label.config in
    let other : c.loop-to.to ≢ config.node = omega (arith, c.requires.place.0, c.if-to-node.true) in
    let within : c.loop-to.to + 1 ≤ config.nodes = omega (arith, c.requires.place.1, c.loop-to-test.true) in
    adds_up_to bare_emit config.node (c.loop-to.to + 1) config.nodes within
    (adds_next bare_emit config.node c.loop-to.to other c.loop-to.invariant.adds c.tell_one.ensures.adds)

pub returns-in_err-tell_one-clause-few : goal.returns-in_err-tell_one-clause-few
returns-in_err-tell_one-clause-few g c =
    let config = g.L.Label.config in
    let other : c.loop-to.to ≢ config.node = omega (arith, c.requires.place.0, c.if-to-node.true) in
    let within : c.loop-to.to + 1 ≤ config.nodes = omega (arith, c.requires.place.1, c.loop-to-test.true) in
    omega (
      arith,
      c.loop-to.invariant.few,
      c.tell_one.ensures.few,
      length_next bare_emit config.node c.loop-to.to other,
      length_up_to bare_emit config.node (c.loop-to.to + 1) config.nodes within,
    )

pub loop-to-preserved : goal.loop-to-preserved
loop-to-preserved g c =
    let config = g.L.Label.config in
    let was = c.loop-to.invariant in
    elim c.if-to-node.branch [
      | then-to-node+in_ok-tell_one w ↦
          let other : c.loop-to.to ≢ config.node = omega (arith, c.requires.place.0, w.if-to-node.true) in
          let length = length_next bare_emit config.node c.loop-to.to other in
          rw (w.seat-is, w.wire-is, w.report-is) record {
            adds = adds_next bare_emit config.node c.loop-to.to other was.adds w.tell_one.ensures.adds;
            tried = omega (arith, was.tried, length, w.in_ok-tell_one.ensures.tried);
            few = omega (arith, was.few, length, w.tell_one.ensures.few);
            moves = moves_as (moves_then was.moves w.in_ok-tell_one.ensures.moves)
                (sym (one_other_more config.node c.loop-to.to other));
          }
      | else-to-node w ↦
          let own : c.loop-to.to ≡ config.node = omega (arith, c.requires.place.0, w.if-to-node.false) in
          let length = length_itself bare_emit config.node c.loop-to.to own in
          rw (w.seat-is, w.wire-is, w.report-is) record {
            adds = adds_itself bare_emit config.node c.loop-to.to own was.adds;
            tried = omega (arith, was.tried, length);
            few = omega (arith, was.few, length);
            moves = moves_as was.moves (sym (no_other_more config.node c.loop-to.to own));
          }
    ]

pub returns-in_err-tell_one-clause-stops : goal.returns-in_err-tell_one-clause-stops
returns-in_err-tell_one-clause-stops g c =
    let config = g.L.Label.config in
    let other : c.loop-to.to ≢ config.node = omega (arith, c.requires.place.0, c.if-to-node.true) in
    let within : c.loop-to.to + 1 ≤ config.nodes = omega (arith, c.requires.place.1, c.loop-to-test.true) in
    on_err _ (
    stops_as
    (stops_before
    (stops_as (stops_then c.loop-to.invariant.moves c.in_err-tell_one.ensures.stops)
    (sym (one_other_more config.node c.loop-to.to other))) _)
    (sym (others_up_to config.node (c.loop-to.to + 1) config.nodes within))
    )

pub returns-clause-moves : goal.returns-clause-moves
returns-clause-moves g c =
    let config = g.L.Label.config in
    let all : c.loop-to.to ≡ config.nodes = omega (arith, c.requires.place.1, c.loop-to-test.false, c.loop-to.auto.to-end) in
    moves_as c.loop-to.invariant.moves (ap (others_below config) all)
