use Rattle.streams.specs.Watched.{inner_of}
use Rattle.part_keeper.proofs.Pieces.{continues}
use Rattle.part_keeper.proofs.recording.Recording.make_batch.Goals as goal

pub returns-in-Ok-clause-made : goal.returns-in-Ok-clause-made
returns-in-Ok-clause-made g c =
    let h = c.make_batch_giving-answer.ensures in
    record {
      before = h.before;
      after = h.after;
      asks = h.asks;
      since = h.since;
      entered = h.entered;
      counted = h.counted;
      came = h.came;
    }

pub returns-in-Ok-clause-kept : goal.returns-in-Ok-clause-kept
returns-in-Ok-clause-kept g c =
    let h = c.make_batch_giving-answer.ensures in
    (h.after, c.make_batch_giving-answer.result.1, h.held, h.given, c.in-Ok.ensures.written.lines)

pub returns-in-Ok-clause-journal : goal.returns-in-Ok-clause-journal
returns-in-Ok-clause-journal g c =
    let old = c.args.self.now.journal in
    let new = c.write.new.self in
    let h = c.make_batch_giving-answer.ensures in
    continues g.W.Write.contents g.L.Label.config g.L.Label.seed g.L.Label.keeps g.L.Ledger.parts
    c.make_batch_giving-answer.new.seat (inner_of old.lines.out) (inner_of new.lines.out) old.calls new.calls h.after
    c.make_batch_giving-answer.result.1 h.held h.given c.in-Ok.ensures.written
