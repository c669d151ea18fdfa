use Rattle.std.proofs.Common.{[], ◌∷◌}
use Rattle.std.proofs.lemmas.Result.{IfOk-weaker}
use Rattle.streams.proofs.Flows.{Appends-then}
use Rattle.packed_trace.specs.Packed.{seen_told}
use Rattle.drills.specs.Drills.{newline}
use Rattle.drills.specs.Lines.{entry, line_text}
use Rattle.drills.proofs.call_line.write_entry.Goals as goal

pub returns : goal.returns
returns g c =
    let contents = g.W.Write.contents in
    let line = line_text (entry (seen_told c.args.call)) in
    let said = c.in_ok-write_call.ensures in
    IfOk-weaker c.write_all.result _ _
    (λ _ more. (
      Appends-then (contents c.args.out.now) (contents c.write_call.new.out) (contents c.write_all.new.self) line
          (newline ∷ []) said.0 more,
      said.1,
    )) c.write_all.ensures.bytes
