use Rattle.std.proofs.Common.{[], ap, ◌∙◌, length, arith}
use Rattle.peer_rounds.specs.Sharing as sharing
use Rattle.peer_rounds.proofs.RoundLemmas.{few_told}
use Rattle.peer_rounds.proofs.rounds.tell_over.Goals as goal

pub returns-in_default-clause-rounds : goal.returns-in_default-clause-rounds
returns-in_default-clause-rounds g c =
    rw (c.none.ensures.made, c.none.ensures.log, c.none.ensures.loss) (_, ([], sharing.none))

pub make_rounds-requires-clause-peers : goal.make_rounds-requires-clause-peers
make_rounds-requires-clause-peers g c =
    let few = few_told g.L.Label.config c.deref.result.now in
    let long = ap length (c.deref_mut.ensures.value ∙ c.in-Ok.ensures.paces) in
    omega (arith, long, few)
