use Rattle.std.proofs.Common.{arith, rules}
use Rattle.std.proofs.lemmas.Grind.{common_steps}
use Rattle.std.proofs.lemmas.List.{take-append-le}
use Rattle.streams.proofs.Flows.{Consumes-then, TakesUpTo-then}
use Rattle.streams.proofs.whole.read_script.Goals as goal

pub loop-chunk-preserved : goal.loop-chunk-preserved
loop-chunk-preserved g c = record {
  taken = rw (
    c.in_ok-extend_from_slice.ensures.items,
    take-append-le c.in-Ok.count c.read.new.buf _
        (grind (arith, common_steps)),
  ) (Consumes-then _ _ _ _ _ c.loop-chunk.invariant.taken c.in-Ok.ensures.bytes.0);
  short = grind (arith, common_steps);
  failed = search rules;
}

pub returns-in_err-extend_from_slice-clause-taken :
    goal.returns-in_err-extend_from_slice-clause-taken
returns-in_err-extend_from_slice-clause-taken g c =
    let bound = c.in-Ok.ensures.bound in
    let len = c.loop-chunk.script.ok.0 in
    TakesUpTo-then 16777217 c.in-Ok.count _ _ _ c.loop-chunk.script.items _ c.loop-chunk.invariant.taken
    c.in-Ok.ensures.bytes.0 (grind (arith, common_steps))

pub returns-clause-too_long : goal.returns-clause-too_long
returns-clause-too_long g c = grind (arith, common_steps)
