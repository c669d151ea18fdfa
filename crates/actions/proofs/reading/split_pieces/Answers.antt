use Rattle.std.proofs.lemmas.Iterator.Consumers.{map_from_collect}
use Rattle.std.proofs.Common.{ℕ, List, Bor, ap}
use Rattle.actions.proofs.PieceLemmas.{YieldsList-from_arrow_split}
use Rattle.actions.proofs.reading.split_pieces.Goals as goal

pub returns : goal.returns
returns c =
    map_from_collect _ c.collect.ensures.ran
    (YieldsList-from_arrow_split c.args.text.now c.split.ensures.text c.split.ensures.has_more
    (ap (λ (n : Bor (List ℕ)). n.now) c.split.ensures.pattern))
