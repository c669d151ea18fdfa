use Rattle.std.proofs.Common.{◌<◌, length, refl, ap, ◌∙◌, arith}
use Rattle.streams.specs.Watched.{has_failed}
use Rattle.drill_files.proofs.Parts.{one_more, rest_more}
use Rattle.drill_files.proofs.kept.keep_parts.Goals as goal

pub loop-node-init : goal.loop-node-init
loop-node-init g c = record { kept = λ i less. absurd (omega (arith, less)); rest = λ i w past. refl }

pub keep_part-requires : goal.keep_part-requires
keep_part-requires g c =
    let at = c.from-at.ensures in
    let file = c.index-files-at.result in
    let as_it_was = c.loop-node.invariant.rest c.from-at.result file (omega (arith, at)) in
    ap has_failed as_it_was ∙ c.requires.sound c.from-at.result file (omega (arith, at, c.loop-node-test.true, c.requires.files))

pub loop-node-preserved : goal.loop-node-preserved
loop-node-preserved g c =
    let inside : c.loop-node.node < length c.loop-node.files =
    omega (arith, c.loop-node-test.true, c.requires.files, c.loop-node.auto.files) in
    let within : c.loop-node.node < length c.args.traces.now =
    omega (arith, c.loop-node-test.true, c.requires.traces) in
    rw c.from-at.ensures (record {
      kept = one_more g.D.Write.contents c.args.size.nodes c.args.size.trace_cap c.args.traces.now c.args.files.now c.loop-node.files
          c.loop-node.node c.index-files-at.result c.keep_part.new.file c.index-traces-at.result inside within
          (rw c.from-at.ensures at c.index-traces-at.is)
          c.loop-node.invariant.kept c.loop-node.invariant.rest (rw c.from-at.ensures at c.in_ok-keep_part.ensures.kept)
          c.in_ok-keep_part.ensures.flushed;
      rest = rest_more c.args.files.now c.loop-node.files c.loop-node.node c.keep_part.new.file c.loop-node.invariant.rest;
    })

pub returns-clause-kept : goal.returns-clause-kept
returns-clause-kept g c = λ node less. c.loop-node.invariant.kept node (omega (arith, less, c.loop-node-test.false))
