use Rattle.std.proofs.Common.{◌≡◌, ◌++◌, ◌∙◌, List, map, ap, subst}
use Rattle.std.specs.List.{flat_map}
use Rattle.std.proofs.lemmas.List.{take_all}
use Rattle.message_format.specs.declared.message.NameEntry.{NameEntry}
use Rattle.message_format.specs.Messages.{entry_value, operations_of}
use Rattle.delta_exchange.specs.News.{news_in, news_of}
use Rattle.delta_exchange.proofs.NewsLemmas.{news_next_entry}
use Rattle.delta_exchange.proofs.news.news_of_message.Goals as goal

pub loop-entry-preserved : goal.loop-entry-preserved
loop-entry-preserved g c =
    let v = g.R.Replica.state c.args.replica.now in
    let before = map news_of c.loop-entry.news.items in
    let after = map news_of c.push_entry.new.news.items in
    news_next_entry c.args.message.now.entries.items v before after c.loop-entry.entry-index c.entry-item.result
    (rw c.deref-entry-items.ensures.value at c.loop-entry-test.true) c.loop-entry.invariant
    (subst (λ (e : NameEntry). after ≡ before ++ news_in v (operations_of (entry_value e)))
    (rw c.deref-entry-items.ensures.value at c.entry-item.is) c.in_ok-push_entry.ensures)

pub loop-entry-init : goal.loop-entry-init
loop-entry-init g c = ap (map news_of) c.new-news.ensures.items

pub returns : goal.returns
returns g c =
    let v = g.R.Replica.state c.args.replica.now in
    c.loop-entry.invariant ∙ ap (λ (es : List NameEntry). news_in v (flat_map operations_of (map entry_value es)))
    (take_all c.loop-entry.entry-index c.args.message.now.entries.items
    (rw c.deref-entry-items.ensures.value at c.loop-entry-test.false))
