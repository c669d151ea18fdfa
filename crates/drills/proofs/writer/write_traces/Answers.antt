use Rattle.std.proofs.Common.{[], sym, ap}
use Rattle.std.proofs.lemmas.List.{take_all}
use Rattle.streams.specs.Watched.{has_failed, inner_of}
use Rattle.drills.specs.Drills.{trace_lines, traces_told, numbered}
use Rattle.drills.proofs.Growing.{both, none_yet, not_failed, one_part}
use Rattle.drills.proofs.writer.write_traces.Goals as goal

pub loop-node-init : goal.loop-node-init
loop-node-init g c = record { holds = none_yet (g.W.Write.contents (inner_of c.args.writer.now)); failed = c.requires }

pub loop-node-preserved : goal.loop-node-preserved
loop-node-preserved g c =
    let contents = g.W.Write.contents in
    let old = contents (inner_of c.args.writer.now) in
    let mid = contents (inner_of c.loop-node.writer) in
    let new = contents (inner_of c.write_trace.new.writer) in
    let more =
    one_part trace_lines (λ trace. trace.calls) c.args.traces.now c.loop-node.node c.index-traces-node.result
    c.loop-node-test.true c.index-traces-node.is in
    record {
      holds = both old mid new _ _ _ c.loop-node.invariant.holds c.in_ok-write_trace.ensures.ok more;
      failed = not_failed c.write_trace.result (has_failed c.write_trace.new.writer) c.write_trace.ensures.write_failed
          c.in_ok-write_trace.was;
    }

pub returns-clause-ok : goal.returns-clause-ok
returns-clause-ok g c =
    let contents = g.W.Write.contents in
    let all = take_all c.loop-node.node c.args.traces.now c.loop-node-test.false in
    both (contents (inner_of c.args.writer.now)) (contents (inner_of c.args.writer.now))
    (contents (inner_of c.loop-node.writer)) [] _
    (numbered trace_lines 0 (traces_told c.args.traces.now)) (none_yet (contents (inner_of c.args.writer.now)))
    c.loop-node.invariant.holds
    (ap (λ xs. numbered trace_lines 0 (traces_told xs)) (sym all))
