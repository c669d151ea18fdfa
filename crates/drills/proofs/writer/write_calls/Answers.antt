use Rattle.std.proofs.Common.{[], map, sym, ap, ◌∙◌, option_map}
use Rattle.std.proofs.lemmas.List.{take_all}
use Rattle.streams.specs.Watched.{has_failed, inner_of}
use Rattle.packed_trace.specs.Packed.{seen_told}
use Rattle.drills.specs.Lines.{entry}
use Rattle.drills.proofs.Growing.{added_line, both, called, is_there, none_yet, not_failed, ok_so}
use Rattle.drills.proofs.writer.write_calls.Goals as goal
use Rattle.drills.proofs.writer.write_calls.Goals.{in-Some+in_ok-written, in_default}

pub loop-index-init : goal.loop-index-init
loop-index-init g c = record { holds = none_yet (g.W.Write.contents (inner_of c.args.writer.now)); failed = c.requires }

pub loop-index-preserved : goal.loop-index-preserved
loop-index-preserved g c =
    let contents = g.W.Write.contents in
    let calls = c.args.trace.now.calls in
    let old = contents (inner_of c.args.writer.now) in
    let mid = contents (inner_of c.loop-index.writer) in
    elim c.match-at.branch [
      | in-Some+in_ok-written w ↦
          let told = seen_told w.in-Some.call in
          let found = sym c.at.ensures ∙ ap (option_map seen_told) w.in-Some.is in
          let more = called calls c.loop-index.index told found in
          let new = contents (inner_of w.write_entry-came.new.out) in
          let said = ok_so w.write_entry-came.result w.in_ok-written.ensures.came w.write_entry-came.ensures in
          rw w.writer-is (record {
            holds = both old mid new _ _ _ c.loop-index.invariant.holds (added_line mid new (entry told) said) more;
            failed = not_failed w.written.result (has_failed w.write_entry-came.new.out)
                w.written.ensures.write_failed w.in_ok-written.was;
          })
      | in_default w ↦
          let none = sym c.at.ensures ∙ ap (option_map seen_told) w.in_default.is in
          absurd (is_there calls c.loop-index.index (rw c.len-index-end.ensures at c.loop-index-test.true) none)
    ]

pub returns-clause-ok : goal.returns-clause-ok
returns-clause-ok g c =
    let contents = g.W.Write.contents in
    let calls = c.args.trace.now.calls in
    let old = contents (inner_of c.args.writer.now) in
    let new = contents (inner_of c.loop-index.writer) in
    let all = take_all c.loop-index.index calls (rw c.len-index-end.ensures at c.loop-index-test.false) in
    both old old new [] _ (map entry calls) (none_yet old) c.loop-index.invariant.holds (ap (map entry) (sym all))
