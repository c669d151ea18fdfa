use Rattle.drills.specs.Taken.{bytes_left}
use Rattle.part_keeper.proofs.FirstLines.{next_taken}
use Rattle.part_keeper.proofs.repeating.take_line.Goals as goal

pub returns-clause-taken : goal.returns-clause-taken
returns-clause-taken g c =
    let left = bytes_left g.I.Read.remaining in
    next_taken (left c.args.reader.now) (left c.read_line.new.reader) c.read_line.new.line.items c.next_of.new.line.items
    c.next_of.result (rw c.clear.ensures.items at c.in_ok-read_line.ensures.read) c.next_of.ensures.next c.next_of.ensures.line
