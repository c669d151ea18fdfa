use Rattle.streams.specs.Watched.{inner_of}
use Rattle.part_keeper.proofs.Keeping.{flushed}
use Rattle.part_keeper.proofs.lines.PartLines.put.Goals as goal

pub returns-clause-ok : goal.returns-clause-ok
returns-clause-ok g c =
    let contents = g.W.Write.contents in
    flushed (contents (inner_of c.args.self.now.out)) (contents (inner_of c.write_all.new.self))
    (contents (inner_of c.flush.new.self)) c.args.bytes.now c.in_ok-write_all.ensures.bytes
    c.in_ok-flush.ensures.bytes
