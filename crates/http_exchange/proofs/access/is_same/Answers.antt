use Rattle.std.proofs.Common.{rules}
use Rattle.std.specs.Iterator.Adapters.{zip_first, zip_second}
use Rattle.std.specs.Slice.Iter.{iter_rest}
use Rattle.std.proofs.lemmas.Iterator.{empty_from_Zip}
use Rattle.http_exchange.proofs.Marks.{marked_all, marked_more}
use Rattle.http_exchange.proofs.access.is_same.Goals as goal

pub returns : goal.returns
returns c =
    let spent = empty_from_Zip _ c.next.new.self _ c.in-None.is c.next.ensures.steps c.loop-a.invariant.0 in
    marked_all c.args.sent.now c.args.wanted.now (iter_rest (zip_first c.loop-a.a-iterator))
    (iter_rest (zip_second c.loop-a.a-iterator)) c.loop-a.differs c.loop-a.invariant.1 spent.0 spent.1

pub loop-a-preserved : goal.loop-a-preserved
loop-a-preserved c = (
  search rules,
  marked_more c.args.sent.now c.args.wanted.now (iter_rest (zip_first c.loop-a.a-iterator))
      (iter_rest (zip_second c.loop-a.a-iterator)) (iter_rest (zip_first c.next.new.self))
      (iter_rest (zip_second c.next.new.self)) c.in-Some.a.now c.in-Some.b.now c.loop-a.differs c.loop-a.invariant.1
      (search rules) (search rules),
)
