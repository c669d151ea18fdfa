use Rattle.std.proofs.Common.{◌≡◌, ◌∷◌, [], ◌++◌, take, ap, subst, sym, ◌∙◌, arith}
use Rattle.std.specs.List.{All}
use Rattle.std.specs.Ordering.{nat_cmp}
use Rattle.std.specs.Cmp.Lexicographic.{slice_cmp}
use Rattle.std.specs.declared.cmp.Ordering.TheVariants.{Less}
use Rattle.std.proofs.lemmas.List.{take_more}
use Rattle.std.proofs.lemmas.List.Elements.{All-push}
use Rattle.sharing.specs.declared.remembered.Remembered.{Remembered}
use Rattle.sharing.proofs.remembered.place_of.Goals as goal

pub loop-remembered-preserved : goal.loop-remembered-preserved
loop-remembered-preserved c =
    let kept = c.args.memory.now in
    let index = c.loop-remembered.remembered-index in
    let item = c.remembered-item.result in
    let P : Remembered → Type 0 = λ r. slice_cmp nat_cmp r.name c.args.name.now ≡ Less in
    let more = take_more kept index item (omega arith) ∙ ap (λ r. take index kept ++ r ∷ []) (sym c.remembered-item.is) in
    record {
      place = omega (arith, c.loop-remembered.invariant.place);
      below = subst (All P) (sym more) (All-push P (take index kept) item c.loop-remembered.invariant.below
          (sym c.in-Less.ensures));
    }
