use Rattle.std.proofs.Common.{◌≡◌, List, ◌∷◌, sym, subst}
use Rattle.std.proofs.lemmas.List.Elements.{All-from_recursion}
use Rattle.operations.specs.Operations.{Operation, IsWellFormed}
use Rattle.replica_state.specs.Folds.{fold}
use Rattle.delta_exchange.specs.declared.news.Told.{Told}
use Rattle.delta_exchange.specs.News.{operation_of}
use Rattle.delta_exchange.proofs.ToldSteps.{learned_next}
use Rattle.delta_exchange.proofs.news.learned.Goals as goal

pub learn-requires : goal.learn-requires
learn-requires g c =
    let all = All-from_recursion (λ (t : Told). IsWellFormed (operation_of t)) c.args.news.now c.requires in
    subst (λ (t : Told). IsWellFormed (operation_of t)) (sym c.told-item.is)
    (all c.loop-told.told-index c.told-item.result c.loop-told-test.true)

pub loop-told-preserved : goal.loop-told-preserved
loop-told-preserved g c =
    let state = g.R.Replica.state in
    learned_next operation_of c.args.news.now (state c.empty-replica.result) (state c.loop-told.replica)
    (state c.learn.new.self) c.loop-told.told-index c.told-item.result c.loop-told-test.true c.loop-told.invariant
    (subst (λ (t : Told). (ops : List Operation) → state c.loop-told.replica ≡ fold ops →
    state c.learn.new.self ≡ fold (operation_of t ∷ ops)) c.told-item.is c.in_ok-learn.ensures.ok)
