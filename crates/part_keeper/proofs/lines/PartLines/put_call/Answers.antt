use Rattle.std.proofs.Common.{subst}
use Rattle.std.specs.Io.KnownBytes.{Appends}
use Rattle.std.proofs.lemmas.Result.{IfOk-weaker}
use Rattle.streams.specs.Watched.{inner_of}
use Rattle.packed_trace.specs.Packed.{seen_told}
use Rattle.drills.specs.Lines.{entry}
use Rattle.part_keeper.proofs.Keeping.{waits_too, written_after}
use Rattle.part_keeper.proofs.lines.PartLines.put_call.Goals as goal

pub returns-then-saturating_add-le-MOST_WAITING-clause-ok : goal.returns-then-saturating_add-le-MOST_WAITING-clause-ok
returns-then-saturating_add-le-MOST_WAITING-clause-ok g c =
    IfOk-weaker c.write_entry.result _ _
    (λ _ said. waits_too g.W.Write.contents (inner_of c.args.self.now.out) c.args.waiting.now.items
    c.write_entry.new.out.items (entry (seen_told c.args.call)) said.0 said.1) c.write_entry.ensures

pub returns-clause-ok : goal.returns-clause-ok
returns-clause-ok g c =
    let contents = g.W.Write.contents in
    let old = inner_of c.args.self.now.out in
    let mid = inner_of c.write_all.new.self in
    let first = subst (Appends (contents old) (contents mid)) c.as_slice.ensures.value c.in_ok-write_all.ensures.bytes in
    IfOk-weaker c.write_entry-2.result _ _
    (λ _ said. written_after contents old mid (inner_of c.write_entry-2.new.out) c.args.waiting.now.items
    c.clear.new.self.items (entry (seen_told c.args.call)) first c.clear.ensures.items said.0 said.1)
    c.write_entry-2.ensures
