use Rattle.std.proofs.Common.{arith, ◌∙◌, subst}
use Rattle.std.specs.Io.KnownBytes.{Appends}
use Rattle.drills.proofs.CallTexts.{hex_more, hex_none}
use Rattle.drills.proofs.call_line.write_hex.Goals as goal

pub loop-done-init : goal.loop-done-init
loop-done-init g c = record { within = omega arith; written = hex_none (g.W.Write.contents c.args.out.now) }

pub loop-done-preserved : goal.loop-done-preserved
loop-done-preserved g c =
    let contents = g.W.Write.contents in
    let end = c.min-end.ensures in
    let more = c.loop-done-test.true in
    record {
      within = omega (arith, end);
      written = hex_more (contents c.args.out.now) (contents c.loop-done.out) (contents c.write_all.new.self)
          c.args.bytes.now c.loop-done.done c.min-end.result (omega (arith, end, more)) c.loop-done.invariant.written
          (subst (Appends (contents c.loop-done.out) (contents c.write_all.new.self))
          (c.as_bytes.ensures.value ∙ c.in_ok-digits.ensures) c.in_ok-write_all.ensures.bytes);
    }
