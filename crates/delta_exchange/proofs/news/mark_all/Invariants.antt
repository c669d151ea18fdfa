use Rattle.std.proofs.Common.{◌≡◌, map, drop}
use Rattle.delta_exchange.specs.Marks.{marks_value}
use Rattle.delta_exchange.specs.News.{news_of, with_news, HaveRoom}
use Rattle.delta_exchange.proofs.news.mark_all.Given as goal

abbrev pub invariant-loop-told : goal.invariant-loop-told
invariant-loop-told l = record {
  room : HaveRoom l.marks (drop l.told-index l.news);
  rest : with_news l.version (map news_of (drop l.told-index l.news)) (marks_value l.marks) ≡ with_news l.version
      (map news_of l.news) (marks_value l.initial.marks);
}
