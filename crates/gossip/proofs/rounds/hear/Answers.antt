use Rattle.std.proofs.Common.{◌∙◌, refl, arith}
use Rattle.gossip.proofs.StepLemmas.{adds_none, adds_then}
use Rattle.gossip.proofs.CarryLemmas.{moves_nothing, moves_then, on_err, stops_then}
use Rattle.gossip.proofs.rounds.hear.Goals as goal

pub loop-taken-init : goal.loop-taken-init
loop-taken-init g c = record {
  adds = adds_none _ _ _ _ _ _ _ refl refl refl refl refl refl refl refl;
  moves = moves_nothing refl refl refl refl refl refl;
  tried = omega arith;
  few = omega arith;
  same = (refl, refl);
}

pub returns-in_err-hear_one-clause-adds : goal.returns-in_err-hear_one-clause-adds
returns-in_err-hear_one-clause-adds g c = adds_then c.loop-taken.invariant.adds c.hear_one.ensures.adds

pub loop-taken-preserved : goal.loop-taken-preserved
loop-taken-preserved g c = record {
  adds = adds_then c.loop-taken.invariant.adds c.hear_one.ensures.adds;
  tried = omega (arith, c.loop-taken.invariant.tried, c.hear_one.ensures.tried);
  few = omega (arith, c.loop-taken.invariant.few, c.hear_one.ensures.few);
  moves = moves_then c.loop-taken.invariant.moves c.in_ok-hear_one.ensures.moves;
  same = (
    c.hear_one.ensures.attempts.0 ∙ c.loop-taken.invariant.same.0,
    c.hear_one.ensures.attempts.1 ∙ c.loop-taken.invariant.same.1,
  );
}

pub returns-then-not-branch-clause-adds : goal.returns-then-not-branch-clause-adds
returns-then-not-branch-clause-adds g c = adds_then c.loop-taken.invariant.adds c.hear_one.ensures.adds

pub returns-in_err-hear_one-clause-stops : goal.returns-in_err-hear_one-clause-stops
returns-in_err-hear_one-clause-stops g c =
    on_err _ (stops_then c.loop-taken.invariant.moves c.in_err-hear_one.ensures.stops)

pub returns-then-not-branch-clause-moves : goal.returns-then-not-branch-clause-moves
returns-then-not-branch-clause-moves g c = moves_then c.loop-taken.invariant.moves c.in_ok-hear_one.ensures.moves
