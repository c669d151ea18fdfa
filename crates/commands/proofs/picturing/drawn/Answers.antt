use Rattle.std.proofs.Common.{map}
use Rattle.std.proofs.lemmas.Result.{IfOk-weaker}
use Rattle.drill_picture.specs.Counted.{counted_told}
use Rattle.commands.proofs.picturing.drawn.Goals as goal

pub returns : goal.returns
returns c =
    let counted = map counted_told c.in_ok-counted.counted.items in
    let is = rw (
      c.requires.said,
      c.wrong_of.ensures,
      c.deref-2.ensures.value,
      c.in_ok-budgets.ensures.budgets,
      c.deref.ensures.value,
    ) at c.picture.ensures in
    IfOk-weaker c.picture.result _ _ (λ text drawn. (counted, c.in_ok-counted.ensures, drawn)) is
