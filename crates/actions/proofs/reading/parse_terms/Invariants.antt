use Rattle.std.proofs.Common.{◌≡◌, drop, map}
use Rattle.actions.specs.Value.{term_value}
use Rattle.actions.specs.Reading.{terms_at}
use Rattle.actions.proofs.LoopLemmas.{with_front}
use Rattle.actions.proofs.reading.parse_terms.Given as goal

abbrev pub invariant-loop-index : goal.invariant-loop-index
invariant-loop-index l =
    with_front (map term_value l.terms.items) (terms_at l.index (map (λ x. x.now) (drop l.index l.pieces))) ≡ terms_at 0
    (map (λ x. x.now) l.pieces)
