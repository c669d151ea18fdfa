use Rattle.std.specs.String.{string_bytes}
use Rattle.streams.specs.Watched.{inner_of}
use Rattle.drills.specs.Drills.{drill_told, list_lines, lists_told, numbered, trace_lines, traces_told}
use Rattle.drills.proofs.Folds.{reads_back}
use Rattle.drills.proofs.Growing.{whole}
use Rattle.drills.proofs.writer.write_drill.Goals as goal

pub returns-in-Ok-clause-ok : goal.returns-in-Ok-clause-ok
returns-in-Ok-clause-ok g c =
    let contents = g.W.Write.contents in
    (whole (contents (inner_of c.args.writer.now)) (contents (inner_of c.write_line.new.writer))
    (contents (inner_of c.write_traces.new.writer))
    (contents (inner_of c.write_lists.new.writer)) (contents (inner_of c.flush.new.self))
    (string_bytes c.in_ok-head_text.field-0)
    (numbered trace_lines 0 (traces_told c.args.traces.now)) (numbered list_lines 0 (lists_told c.args.lists.now))
    c.in_ok-head_text.ensures
    c.in_ok-write_line.ensures.ok c.in_ok-write_traces.ensures.ok c.in_ok-write_lists.ensures.ok
    c.in-Ok.ensures.bytes).0

pub returns-in-Ok-clause-reads_back : goal.returns-in-Ok-clause-reads_back
returns-in-Ok-clause-reads_back g c =
    let contents = g.W.Write.contents in
    reads_back (drill_told c.args.traces.now c.args.lists.now)
    (whole (contents (inner_of c.args.writer.now)) (contents (inner_of c.write_line.new.writer))
    (contents (inner_of c.write_traces.new.writer))
    (contents (inner_of c.write_lists.new.writer)) (contents (inner_of c.flush.new.self))
    (string_bytes c.in_ok-head_text.field-0)
    (numbered trace_lines 0 (traces_told c.args.traces.now)) (numbered list_lines 0 (lists_told c.args.lists.now))
    c.in_ok-head_text.ensures
    c.in_ok-write_line.ensures.ok c.in_ok-write_traces.ensures.ok c.in_ok-write_lists.ensures.ok
    c.in-Ok.ensures.bytes).1
