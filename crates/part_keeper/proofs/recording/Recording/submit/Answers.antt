use Rattle.streams.specs.Watched.{inner_of}
use Rattle.part_keeper.proofs.Pieces.{counted_once, given_answered, has_line, recorded}
use Rattle.part_keeper.proofs.recording.Recording.submit.Goals as goal

pub returns-in-Ok-write-clause-answered : goal.returns-in-Ok-write-clause-answered
returns-in-Ok-write-clause-answered g c =
    given_answered g.L.Label.config g.L.Label.seed g.L.Label.keeps g.L.Ledger.parts c.args.self.now.seat
    c.submit_giving.new.seat c.args.ask c.in-Ok.given.0 c.in-Ok.given.1 c.in-Ok.ensures.given

pub returns-in-Ok-write-clause-journal : goal.returns-in-Ok-write-clause-journal
returns-in-Ok-write-clause-journal g c =
    let old = c.args.self.now.journal in
    let new = c.write.new.self in
    has_line g.W.Write.contents g.L.Label.config g.L.Label.seed g.L.Label.keeps g.L.Ledger.parts
    c.submit_giving.new.seat (inner_of old.lines.out) (inner_of new.lines.out) old.calls new.calls
    c.args.self.now.seat c.args.ask c.in-Ok.given.0 c.in-Ok.given.1 c.in-Ok.ensures.given
    c.in-Ok-write.ensures.written

pub returns-in-Ok-write-clause-recorded : goal.returns-in-Ok-write-clause-recorded
returns-in-Ok-write-clause-recorded g c =
    let old = c.args.self.now.journal in
    let new = c.write.new.self in
    recorded g.W.Write.contents g.L.Label.config g.L.Label.seed g.L.Label.keeps g.L.Ledger.parts
    c.submit_giving.new.seat (inner_of old.lines.out) (inner_of new.lines.out) old.calls new.calls c.args.ask
    c.in-Ok.given.0 (returns-in-Ok-write-clause-journal g c)

pub returns-in-Ok-write-clause-counted : goal.returns-in-Ok-write-clause-counted
returns-in-Ok-write-clause-counted g c =
    counted_once g.L.Label.config g.L.Label.seed g.L.Label.keeps g.L.Ledger.parts c.args.self.now.seat
    c.submit_giving.new.seat c.args.ask c.in-Ok.given.0 c.in-Ok.given.1 c.in-Ok.ensures.given
