use Rattle.std.proofs.Common.{◌∙◌, map, ap, arith, length, sym}
use Rattle.std.proofs.lemmas.Option.{none-some}
use Rattle.std.specs.Prelude.{slice_get}
use Rattle.packed_trace.specs.Packed.{row_told}
use Rattle.packed_trace.proofs.trace.Trace.new.Goals as goal

pub invariant_of-result : goal.invariant_of-result
invariant_of-result c =
    let slots = ap length c.new.ensures.items in (
      λ k d low. absurd (omega (arith, slots, low)),
      λ row at is. absurd (none-some row
          (ap (λ rows. slice_get (map row_told rows) at) (sym c.new-2.ensures.items) ∙ is.there)),
    )
