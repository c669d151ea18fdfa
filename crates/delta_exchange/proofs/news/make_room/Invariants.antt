use Rattle.std.proofs.Common.{◌≡◌, take}
use Rattle.delta_exchange.specs.Marks.{marks_value}
use Rattle.delta_exchange.specs.News.{HaveRoom}
use Rattle.delta_exchange.proofs.news.make_room.Given as goal

abbrev pub invariant-loop-told : goal.invariant-loop-told
invariant-loop-told l = record {
  same : marks_value l.marks ≡ marks_value l.initial.marks;
  room : HaveRoom l.marks (take l.told-index l.news);
}
