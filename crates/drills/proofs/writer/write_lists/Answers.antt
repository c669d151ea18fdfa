use Rattle.std.proofs.Common.{[], map, sym, ap}
use Rattle.std.proofs.lemmas.List.{take_all}
use Rattle.streams.specs.Watched.{has_failed, inner_of}
use Rattle.drills.specs.Lines.{receipt_told}
use Rattle.drills.specs.Drills.{list_lines, lists_told, numbered}
use Rattle.drills.proofs.Growing.{both, none_yet, not_failed, one_part}
use Rattle.drills.proofs.writer.write_lists.Goals as goal

pub loop-number-init : goal.loop-number-init
loop-number-init g c = record {
  holds = none_yet (g.W.Write.contents (inner_of c.args.writer.now));
  failed =
      c.requires;
}

pub loop-number-preserved : goal.loop-number-preserved
loop-number-preserved g c =
    let contents = g.W.Write.contents in
    let old = contents (inner_of c.args.writer.now) in
    let mid = contents (inner_of c.loop-number.writer) in
    let new = contents (inner_of c.write_list.new.writer) in
    let more =
    one_part list_lines (λ part. map receipt_told part.items) c.args.lists.now c.loop-number.number
    c.index-lists-number.result c.loop-number-test.true c.index-lists-number.is in
    record {
      holds = both old mid new _ _ _ c.loop-number.invariant.holds c.in_ok-write_list.ensures.ok more;
      failed = not_failed c.write_list.result (has_failed c.write_list.new.writer) c.write_list.ensures.write_failed
          c.in_ok-write_list.was;
    }

pub returns-clause-ok : goal.returns-clause-ok
returns-clause-ok g c =
    let contents = g.W.Write.contents in
    let all = take_all c.loop-number.number c.args.lists.now c.loop-number-test.false in
    both (contents (inner_of c.args.writer.now)) (contents (inner_of c.args.writer.now))
    (contents (inner_of c.loop-number.writer)) [] _
    (numbered list_lines 0 (lists_told c.args.lists.now)) (none_yet (contents (inner_of c.args.writer.now)))
    c.loop-number.invariant.holds
    (ap (λ xs. numbered list_lines 0 (lists_told xs)) (sym all))
