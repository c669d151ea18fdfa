use Rattle.std.proofs.Common.{◌≡◌, ℕ, [], Option, Some, Vec, Global, option_map, ap, ◌∙◌, refl, arith}
use Rattle.gossip.specs.Traffic.{takes}
use Rattle.gossip.proofs.StepLemmas.{adds_none}
use Rattle.gossip.proofs.CarryLemmas.{moves_nothing, on_err, stops_at_once, stops_now, stops_then}
use Rattle.gossip.proofs.rounds.hear_one.Goals as goal

pub returns-in_err-reserve-clause-adds : goal.returns-in_err-reserve-clause-adds
returns-in_err-reserve-clause-adds g c = adds_none _ _ _ _ _ _ _ refl c.reserve.ensures.items refl refl refl refl refl refl

pub returns-in_err-reserve-2-clause-adds : goal.returns-in_err-reserve-2-clause-adds
returns-in_err-reserve-2-clause-adds g c =
    adds_none _ _ _ _ _ _ _ refl c.reserve.ensures.items refl refl refl refl refl c.reserve-2.ensures.items

pub returns-in-Err-OutOfMemory-clause-adds : goal.returns-in-Err-OutOfMemory-clause-adds
returns-in-Err-OutOfMemory-clause-adds g c = adds_none _ _ _ _ _ _ _ refl c.reserve.ensures.items refl refl refl refl refl c.reserve-2.ensures.items

pub returns-in-Ok-None-clause-adds : goal.returns-in-Ok-None-clause-adds
returns-in-Ok-None-clause-adds g c = adds_none _ _ _ _ _ _ _ refl c.reserve.ensures.items refl refl refl refl refl c.reserve-2.ensures.items

pub returns-in-Err : goal.returns-in-Err
returns-in-Err g c = record {
  adds = adds_none _ _ _ _ _ _ _ refl c.reserve.ensures.items refl refl refl refl refl c.reserve-2.ensures.items;
  tried = omega arith;
  few = omega arith;
  attempts = (refl, refl);
  moves = moves_nothing c.in-Err.ensures.err c.reserve.ensures.items refl refl refl c.reserve-2.ensures.items;
  stops = tt;
}

pub returns-in_err-reserve-clause-stops : goal.returns-in_err-reserve-clause-stops
returns-in_err-reserve-clause-stops g c =
    on_err _ (stops_at_once [] (moves_nothing refl c.reserve.ensures.items refl refl refl refl))

pub returns-in_err-reserve-2-clause-stops : goal.returns-in_err-reserve-2-clause-stops
returns-in_err-reserve-2-clause-stops g c =
    on_err _ (stops_at_once []
    (moves_nothing refl c.reserve.ensures.items refl refl refl c.reserve-2.ensures.items))

pub returns-in-Ok-None-clause-moves : goal.returns-in-Ok-None-clause-moves
returns-in-Ok-None-clause-moves g c =
    let old = g.W.Wire.traffic c.args.wire.now in
    moves_nothing
    (c.in-Ok-None.ensures.ok ∙ ap (λ (f : Option (Vec ℕ Global)). takes (option_map (λ m. m.items) f) old) c.in-Ok-None.field-0-is)
    c.reserve.ensures.items refl refl refl c.reserve-2.ensures.items

pub returns-in-Err-OutOfMemory-clause-stops : goal.returns-in-Err-OutOfMemory-clause-stops
returns-in-Err-OutOfMemory-clause-stops g c =
    stops_at_once [] (moves_nothing c.in-Err-OutOfMemory.ensures.err c.reserve.ensures.items refl refl refl c.reserve-2.ensures.items)

pub returns-in_err-take_in-in-Ok-Some-clause-stops : goal.returns-in_err-take_in-in-Ok-Some-clause-stops
returns-in_err-take_in-in-Ok-Some-clause-stops g c =
    let old = g.W.Wire.traffic c.args.wire.now in
    let taken : g.W.Wire.traffic c.take.new.self ≡ takes (Some c.in-Ok-Some.message.items) old =
    c.in-Ok-Some.ensures.ok ∙ ap (λ (f : Option (Vec ℕ Global)). takes (option_map (λ m. m.items) f) old) c.in-Ok-Some.field-0-is in
    let stopped = c.in_err-take_in-in-Ok-Some.ensures.stops old in
    on_err _ (stops_then (moves_nothing refl c.reserve.ensures.items refl refl refl c.reserve-2.ensures.items) (stops_now stopped taken))
