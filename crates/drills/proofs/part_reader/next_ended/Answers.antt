use Rattle.std.proofs.Common.{arith}
use Rattle.drills.specs.Taken.{bytes_left}
use Rattle.drills.proofs.EndedLines.{next_taken}
use Rattle.drills.proofs.part_reader.next_ended.Goals as goal

pub returns-in-Ok-clause-taken : goal.returns-in-Ok-clause-taken
returns-in-Ok-clause-taken g c =
    let left = bytes_left g.I.Read.remaining in
    let len = c.read_until-taken.new.buf.ok.0 in
    let grown = c.in-Ok.ensures.ok in
    let some = c.in-Ok.field-0-test.1 in
    next_taken (left c.args.reader.now) (left c.read_until-taken.new.self) c.read_until-taken.new.buf.items
    c.next_of.new.line.items c.next_of.result
    (rw c.clear.ensures.items at c.in-Ok.ensures.bytes) c.in-Ok.ensures.rest (omega (arith, len, grown, some))
    c.next_of.ensures.next c.next_of.ensures.line
