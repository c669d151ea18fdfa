use Rattle.std.proofs.Common.{[], ◌∷◌, map, None, refl}
use Rattle.std.specs.String.{string_bytes}
use Rattle.std.proofs.lemmas.Result.{IfOk-weaker}
use Rattle.streams.specs.Watched.{inner_of}
use Rattle.drills.specs.Lines.{trace, entry}
use Rattle.drills.proofs.Growing.{both, one_line}
use Rattle.drills.proofs.writer.write_trace.Goals as goal

pub returns-clause-ok : goal.returns-clause-ok
returns-clause-ok g c =
    let contents = g.W.Write.contents in
    let calls = c.args.trace.now.calls in
    let old = contents (inner_of c.args.writer.now) in
    let mid = contents (inner_of c.write_line.new.writer) in
    let new = contents (inner_of c.write_calls.new.writer) in
    IfOk-weaker c.write_calls.result _ _ (λ _ more. both old mid new (trace c.args.node None ∷ []) (map entry calls)
    (trace c.args.node None ∷ map entry calls)
    (one_line old mid (string_bytes c.in_ok-trace_text.field-0) (trace c.args.node None) c.in_ok-trace_text.ensures
    c.in_ok-write_line.ensures.ok)
    more refl) c.write_calls.ensures.ok
