use Rattle.std.proofs.Common.{arith}
use Rattle.std.proofs.lemmas.List.{append-nil}
use Rattle.node_calls.specs.Asks.{bare_emit}
use Rattle.gossip.proofs.RangeLemmas.{length_but}
use Rattle.gossip.proofs.StepLemmas.{adds_as, adds_then}
use Rattle.gossip.proofs.CarryLemmas.{moves_as, moves_then, stops_as, stops_then, with_err, with_ok}
use Rattle.gossip.proofs.rounds.round.Goals as goal

pub hear-requires : goal.hear-requires
hear-requires g c =
    let config = g.L.Label.config in
    omega (arith, c.requires.place.1, c.tell.ensures.few, length_but bare_emit config.node config.nodes)

pub returns-clause-adds : goal.returns-clause-adds
returns-clause-adds g c = adds_as (adds_then c.tell.ensures.adds c.hear.ensures.adds) (append-nil _)

pub returns-clause-moves : goal.returns-clause-moves
returns-clause-moves g c =
    with_ok c.hear.result (λ m. moves_as (moves_then c.in_ok-tell.ensures.moves m) (append-nil _)) c.hear.ensures.moves

pub returns-clause-stops : goal.returns-clause-stops
returns-clause-stops g c =
    with_err c.hear.result (λ s. stops_as (stops_then c.in_ok-tell.ensures.moves s) (append-nil _)) c.hear.ensures.stops
