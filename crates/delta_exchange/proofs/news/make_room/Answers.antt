use Rattle.std.proofs.Common.{◌∙◌, subst, IsTrue, Option}
use Rattle.operations.specs.declared.counted.Counted.{Counted}
use Rattle.delta_exchange.specs.declared.news.Told.{Told}
use Rattle.delta_exchange.specs.Marks.{has_room}
use Rattle.delta_exchange.specs.News.{counted_of}
use Rattle.delta_exchange.proofs.RoomLemmas.{room_next}
use Rattle.delta_exchange.proofs.news.make_room.Goals as goal

pub loop-told-preserved : goal.loop-told-preserved
loop-told-preserved c = record {
  same = c.make_room.ensures.same ∙ c.loop-told.invariant.same;
  room = room_next c.loop-told.marks c.make_room.new.self c.args.news.now c.loop-told.told-index c.told-item.result
      c.loop-told-test.true c.make_room.ensures.kept c.loop-told.invariant.room
      (subst (λ (t : Told). IsTrue (has_room c.make_room.new.self t.name.now (counted_of t.count))) c.told-item.is
      (subst (λ (x : Option Counted). IsTrue (has_room c.make_room.new.self c.told-item.result.name.now x))
      c.counted.ensures c.in_ok-make_room.ensures.room));
}
