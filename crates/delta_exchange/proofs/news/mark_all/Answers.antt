use Rattle.std.proofs.Common.{◌≡◌, ◌+◌, ◌∙◌, ◌∷◌, map, drop, ap, sym, subst}
use Rattle.stamp_register.specs.Keys.{key_value}
use Rattle.operations.specs.Operations.{name_in}
use Rattle.operations.specs.Counts.{count_told}
use Rattle.delta_exchange.specs.Marks.{marks_value, with_mark}
use Rattle.delta_exchange.specs.News.{news_of, operation_of, is_new, counted_of, with_news, HaveRoom}
use Rattle.delta_exchange.proofs.RoomLemmas.{drop_first, room_kept, name_told, counted_told}
use Rattle.delta_exchange.proofs.news.mark_all.Goals as goal

pub loop-told-preserved : goal.loop-told-preserved
loop-told-preserved c =
    let t = c.told-item.result in
    let version = c.args.version in
    let rest = drop (c.loop-told.told-index + 1) c.args.news.now in
    let first : drop c.loop-told.told-index c.args.news.now ≡ t ∷ rest =
    drop_first c.args.news.now c.loop-told.told-index t c.loop-told-test.true c.told-item.is in
    let old = marks_value c.loop-told.marks in
    let marked : marks_value c.mark.new.self ≡ with_mark (name_in (operation_of t)) (is_new t.order t.count)
    (counted_of (count_told (operation_of t))) version old = c.mark.ensures.marks ∙
    (λ i. with_mark (sym (name_told t.name.now (key_value t.key.now) t.count) i) (c.is_new_key.ensures i)
    ((c.counted.ensures ∙ sym (counted_told t.name.now (key_value t.key.now) t.count)) i) version old) in
    record {
      room = room_kept c.loop-told.marks c.mark.new.self rest c.mark.ensures.kept
          (subst (λ ts. HaveRoom c.loop-told.marks ts) first c.loop-told.invariant.room).1;
      rest = ap (with_news version (map news_of rest)) marked ∙
          ap (λ ts. with_news version (map news_of ts) old) (sym first) ∙ c.loop-told.invariant.rest;
    }
