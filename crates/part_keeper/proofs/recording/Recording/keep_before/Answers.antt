use Rattle.streams.specs.Watched.{inner_of}
use Rattle.part_keeper.proofs.Pieces.{given_continues, same_after}
use Rattle.part_keeper.proofs.recording.Recording.keep_before.Goals as goal

pub returns-clause-journal : goal.returns-clause-journal
returns-clause-journal g c =
    let old = c.args.self.now.journal in
    let new = c.write.new.self in
    given_continues g.W.Write.contents g.L.Label.config g.L.Label.seed g.L.Label.keeps g.L.Ledger.parts
    c.give-piece.new.seat (inner_of old.lines.out) (inner_of new.lines.out) old.calls new.calls c.args.self.now.seat
    c.give-piece.result (same_after c.args.self.now.seat c.give-piece.new.seat _ c.give-piece.ensures.counted)
    c.give-piece.ensures.piece c.in_ok-write.ensures.written
