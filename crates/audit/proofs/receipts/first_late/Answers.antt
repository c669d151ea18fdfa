use Rattle.std.proofs.Common.{◌<◌, ℕ, refl, arith, replicate, length}
use Rattle.std.proofs.lemmas.List.{get_or-replicate, length-replicate}
use Rattle.std.proofs.lemmas.Option.{slice_get_read, slice_get_within}
use Rattle.audit.proofs.Late.{ahead_start, ahead_next, late_here}
use Rattle.audit.proofs.receipts.first_late.Goals as goal

pub loop-place-init : goal.loop-place-init
loop-place-init c = ahead_start c.args.receipts.now (replicate 256 0) (length-replicate {A = ℕ} 256 0)
    (λ n few. get_or-replicate {A = ℕ} 256 n 0 0 few)

pub returns-then-index-next-clause-late : goal.returns-then-index-next-clause-late
returns-then-index-next-clause-late c =
    late_here c.args.receipts.now c.loop-place.place c.loop-place.next c.index-receipts-place.result
    c.loop-place.invariant
    (slice_get_read c.args.receipts.now _ c.loop-place.place c.index-receipts-place.result refl c.loop-place-test.true
    c.index-receipts-place.is)
    (omega arith) (omega (arith, c.if-index-next.true))

pub loop-place-preserved : goal.loop-place-preserved
loop-place-preserved c =
    ahead_next c.args.receipts.now c.loop-place.place c.loop-place.next c.index-receipts-place.result
    c.loop-place.invariant
    (slice_get_read c.args.receipts.now _ c.loop-place.place c.index-receipts-place.result refl c.loop-place-test.true
    c.index-receipts-place.is)
    (omega arith) (omega (arith, c.if-index-next.false))

pub returns-clause-none : goal.returns-clause-none
returns-clause-none c = λ p late. c.loop-place.invariant.none p
    (let inside : p < length c.args.receipts.now = slice_get_within c.args.receipts.now p late.late late.second in
    omega (arith, inside)) late
