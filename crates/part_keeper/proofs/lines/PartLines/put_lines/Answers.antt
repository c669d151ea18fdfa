use Rattle.std.proofs.Common.{[], map, option_map, refl, sym, ap, subst, ◌∙◌}
use Rattle.std.specs.Io.KnownBytes.{Appends}
use Rattle.std.proofs.lemmas.List.{take_all}
use Rattle.std.proofs.lemmas.Result.{IfOk-weaker}
use Rattle.streams.specs.Watched.{inner_of}
use Rattle.packed_trace.specs.Packed.{seen_told}
use Rattle.drills.specs.Lines.{entry}
use Rattle.drills.proofs.Growing.{called, is_there}
use Rattle.part_keeper.proofs.Keeping.{Waits, all_written, none_waits, one_waits}
use Rattle.part_keeper.proofs.lines.PartLines.put_lines.Goals as goal
use Rattle.part_keeper.proofs.lines.PartLines.put_lines.Goals.{in-Some+in_ok-put_call, in_default}

pub loop-index-init : goal.loop-index-init
loop-index-init g c =
    let old = g.W.Write.contents (inner_of c.args.self.now.out) in
    record { waits = subst (λ l. Waits old old l []) (sym c.new-waiting.ensures.items) (none_waits old); same = refl }

pub loop-index-preserved : goal.loop-index-preserved
loop-index-preserved g c =
    let contents = g.W.Write.contents in
    let calls = c.args.trace.now.calls in
    let old = inner_of c.args.self.now.out in
    let mid = inner_of c.loop-index.self.out in
    elim c.match-at.branch [
      | in-Some+in_ok-put_call w ↦
          let told = seen_told w.in-Some.call in
          let found = sym c.at.ensures ∙ ap (option_map seen_told) w.in-Some.is in
          let more = called calls c.loop-index.index told found in
          let new = inner_of w.put_call.new.self.out in
          rw (w.self-is, w.waiting-is) (record {
            waits = one_waits contents old mid new c.loop-index.waiting.items w.put_call.new.waiting.items _ _ (entry told)
                c.loop-index.invariant.waits w.in_ok-put_call.ensures.ok more;
            same = w.put_call.ensures.same ∙ c.loop-index.invariant.same;
          })
      | in_default w ↦
          let none = sym c.at.ensures ∙ ap (option_map seen_told) w.in_default.is in
          absurd (is_there calls c.loop-index.index (rw c.len-index-end.ensures at c.loop-index-test.true) none)
    ]

pub returns-clause-ok : goal.returns-clause-ok
returns-clause-ok g c =
    let contents = g.W.Write.contents in
    let calls = c.args.trace.now.calls in
    let old = contents (inner_of c.args.self.now.out) in
    let mid = contents (inner_of c.loop-index.self.out) in
    let new = contents (inner_of c.put.new.self.out) in
    let all = take_all c.loop-index.index calls (rw c.len-index-end.ensures at c.loop-index-test.false) in
    let waits = subst (λ l. Waits old mid c.loop-index.waiting.items (map entry l)) all c.loop-index.invariant.waits in
    IfOk-weaker c.put.result _ _
    (λ _ more. all_written old mid new c.loop-index.waiting.items (map entry calls) waits
    (subst (Appends mid new) c.as_slice.ensures.value more)) c.put.ensures.ok
