use Rattle.std.proofs.Common.{◌≡◌, ◌≤◌, ℕ, ◌+◌, List, ap, sym, refl, arith, length}
use Rattle.node_calls.specs.Asks.{bare_emit}
use Rattle.gossip.specs.Reports.{emits_below}
use Rattle.gossip.proofs.RangeLemmas.{length_but, over_more, turns_up_to}
use Rattle.gossip.proofs.StepLemmas.{adds_none, adds_turn, adds_turns, length_over, length_turn, length_turns}
use Rattle.gossip.specs.Carried.{others_in_rounds}
use Rattle.gossip.specs.Reports.{others_below}
use Rattle.gossip.proofs.CarryLemmas.{moves_as, moves_nothing, moves_then, on_err, stops_as, stops_before, stops_then}
use Rattle.gossip.proofs.rounds.do_rounds.Goals as goal

pub loop-round-init : goal.loop-round-init
loop-round-init g c = record {
  adds = adds_none _ _ _ _ _ _ _ refl refl refl refl refl refl refl refl;
  moves = moves_nothing refl refl refl refl refl refl;
  tried = omega arith;
  few = omega arith;
}

pub round-requires-clause-room : goal.round-requires-clause-room
round-requires-clause-room g c =
    let config = g.L.Label.config in
    let few : length (emits_below config config.nodes) ≤ 255 =
    omega (arith, c.requires.place.1, length_but bare_emit config.node config.nodes) in
    omega (
      arith,
      c.loop-round.invariant.few,
      length_over (λ n. emits_below config config.nodes) 255 c.loop-round._round
          (λ n. few),
    )

pub returns-in_err-round-clause-adds : goal.returns-in_err-round-clause-adds
returns-in_err-round-clause-adds g c =
    let config = g.L.Label.config in
    let within : c.loop-round._round + 1 ≤ c.args.rounds = omega (arith, c.loop-round-test.true) in
    adds_turns (λ n. emits_below config config.nodes) (c.loop-round._round + 1) c.args.rounds within
    (adds_turn (λ n. emits_below config config.nodes) c.loop-round._round c.loop-round.invariant.adds
    c.round.ensures.adds)

pub returns-in_err-round-clause-few : goal.returns-in_err-round-clause-few
returns-in_err-round-clause-few g c =
    let config = g.L.Label.config in
    let within : c.loop-round._round + 1 ≤ c.args.rounds = omega (arith, c.loop-round-test.true) in
    omega (
      arith,
      c.loop-round.invariant.few,
      c.round.ensures.few,
      length_turn (λ n. emits_below config config.nodes) c.loop-round._round,
      length_turns (λ n. emits_below config config.nodes) (c.loop-round._round + 1) c.args.rounds within,
    )

pub loop-round-preserved : goal.loop-round-preserved
loop-round-preserved g c =
    let config = g.L.Label.config in
    let was = c.loop-round.invariant in
    let length = length_turn (λ n. emits_below config config.nodes) c.loop-round._round in
    record {
      adds = adds_turn (λ n. emits_below config config.nodes) c.loop-round._round was.adds c.round.ensures.adds;
      tried = omega (arith, was.tried, length, c.in_ok-round.ensures.tried);
      few = omega (arith, was.few, length, c.round.ensures.few);
      moves = moves_as (moves_then was.moves c.in_ok-round.ensures.moves)
          (sym (over_more (λ n. others_below config config.nodes) c.loop-round._round));
    }

pub returns-in_err-round-clause-stops : goal.returns-in_err-round-clause-stops
returns-in_err-round-clause-stops g c =
    let config = g.L.Label.config in
    let others : ℕ → List ℕ = λ n. others_below config config.nodes in
    let within : c.loop-round._round + 1 ≤ c.args.rounds = omega (arith, c.loop-round-test.true) in
    on_err _ (
    stops_as
    (stops_before
    (stops_as (stops_then c.loop-round.invariant.moves c.in_err-round.ensures.stops)
    (sym (over_more others c.loop-round._round))) _)
    (sym (turns_up_to others (c.loop-round._round + 1) c.args.rounds within))
    )

pub returns-clause-moves : goal.returns-clause-moves
returns-clause-moves g c =
    let all : c.loop-round._round ≡ c.args.rounds = omega (arith, c.loop-round-test.false, c.loop-round.auto._round-end) in
    moves_as c.loop-round.invariant.moves (ap (others_in_rounds g.L.Label.config) all)
