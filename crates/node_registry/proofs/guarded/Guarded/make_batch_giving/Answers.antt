use Rattle.std.proofs.Common.{arith}
use Rattle.node_registry.specs.Cells.{Cell}
use Rattle.node_registry.proofs.AcceptedBatches.{accepted_from}
use Rattle.node_registry.proofs.guarded.Guarded.make_batch_giving.Goals as goal

pub unreachable-requires : goal.unreachable-requires
unreachable-requires g c =
    let made = c.make_batch-answer.ensures.entered in
    let new : Cell = c.make_batch-answer.new.self in
    let kept = accepted_from c.args.self.now.node made.0 new.node made.1.0 in
    let from = kept.1 in
    let seat = c.make_batch-answer.ensures.given in
    let few = c.requires.given in
    let over = c.in_default.ensures.none in
    omega (arith, from, seat, few, over)
