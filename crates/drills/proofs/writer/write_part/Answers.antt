use Rattle.std.proofs.Common.{map}
use Rattle.std.specs.String.{string_bytes}
use Rattle.streams.specs.Watched.{inner_of}
use Rattle.drills.specs.Lines.{entry, head_told}
use Rattle.drills.proofs.Growing.{whole_part}
use Rattle.drills.proofs.PartsRead.{part_back}
use Rattle.drills.proofs.writer.write_part.Goals as goal

pub returns-in-Ok-clause-ok : goal.returns-in-Ok-clause-ok
returns-in-Ok-clause-ok g c =
    let contents = g.W.Write.contents in
    (whole_part (contents (inner_of c.args.writer.now)) (contents (inner_of c.write_line.new.writer))
    (contents (inner_of c.write_calls.new.writer)) (contents (inner_of c.flush.new.self))
    (string_bytes c.in_ok-part_head_text.field-0) (head_told c.args.head.now) (map entry c.args.trace.now.calls)
    c.in_ok-part_head_text.ensures
    c.in_ok-write_line.ensures.ok c.in_ok-write_calls.ensures.ok c.in-Ok.ensures.bytes).0

pub returns-in-Ok-clause-reads_back : goal.returns-in-Ok-clause-reads_back
returns-in-Ok-clause-reads_back g c =
    let contents = g.W.Write.contents in
    part_back (head_told c.args.head.now) c.args.trace.now.calls
    (whole_part (contents (inner_of c.args.writer.now)) (contents (inner_of c.write_line.new.writer))
    (contents (inner_of c.write_calls.new.writer)) (contents (inner_of c.flush.new.self))
    (string_bytes c.in_ok-part_head_text.field-0) (head_told c.args.head.now) (map entry c.args.trace.now.calls)
    c.in_ok-part_head_text.ensures
    c.in_ok-write_line.ensures.ok c.in_ok-write_calls.ensures.ok c.in-Ok.ensures.bytes).1
