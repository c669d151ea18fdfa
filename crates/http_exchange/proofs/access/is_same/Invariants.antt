use Rattle.std.proofs.Common.{◌≡◌, length}
use Rattle.std.specs.Iterator.Adapters.{zip_first, zip_second}
use Rattle.std.specs.Slice.Iter.{iter_rest}
use Rattle.http_exchange.proofs.Marks.{IsMarked}
use Rattle.http_exchange.proofs.access.is_same.Given as goal

abbrev pub invariant-loop-a : goal.invariant-loop-a
invariant-loop-a l =
    let xs = iter_rest (zip_first l.a-iterator) in
    let ys = iter_rest (zip_second l.a-iterator) in
    (length xs ≡ length ys) × IsMarked l.sent l.wanted xs ys l.differs
