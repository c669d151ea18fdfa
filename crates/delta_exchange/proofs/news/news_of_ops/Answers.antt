use Rattle.std.proofs.Common.{◌≡◌, ◌++◌, ◌∙◌, List, [], ◌∷◌, map, ap, subst}
use Rattle.std.proofs.lemmas.List.{take_all}
use Rattle.operations.specs.declared.op.Op.{Op}
use Rattle.operations.specs.Operations.{operation}
use Rattle.delta_exchange.specs.News.{news_in, news_of}
use Rattle.delta_exchange.proofs.NewsLemmas.{news_next}
use Rattle.delta_exchange.proofs.news.news_of_ops.Goals as goal

pub loop-op-preserved : goal.loop-op-preserved
loop-op-preserved g c =
    let v = g.R.Replica.state c.args.replica.now in
    let before = map news_of c.loop-op.news.items in
    let after = map news_of c.push_op.new.news.items in
    news_next operation c.args.ops.now v [] before after c.loop-op.op-index c.op-item.result c.loop-op-test.true
    c.loop-op.invariant
    (subst (λ (op : Op). after ≡ before ++ news_in v (operation op ∷ [])) c.op-item.is c.in_ok-push_op.ensures)

pub loop-op-init : goal.loop-op-init
loop-op-init g c = ap (map news_of) c.new-news.ensures.items

pub returns : goal.returns
returns g c =
    let v = g.R.Replica.state c.args.replica.now in
    c.loop-op.invariant ∙ ap (λ (ops : List Op). news_in v (map operation ops))
    (take_all c.loop-op.op-index c.args.ops.now c.loop-op-test.false)
