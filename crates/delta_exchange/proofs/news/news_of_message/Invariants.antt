use Rattle.std.proofs.Common.{◌≡◌, map, take}
use Rattle.std.specs.List.{flat_map}
use Rattle.message_format.specs.Messages.{entry_value, operations_of}
use Rattle.delta_exchange.specs.News.{news_in, news_of}
use Rattle.delta_exchange.proofs.news.news_of_message.Given as goal

abbrev pub invariant-loop-entry : goal.invariant-loop-entry
invariant-loop-entry g l = map news_of l.news.items ≡ news_in (g.R.Replica.state l.replica)
    (flat_map operations_of (map entry_value (take l.entry-index l.message.entries.items)))
