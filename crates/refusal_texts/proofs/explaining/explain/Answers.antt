use Rattle.std.proofs.Common.{rules, lit<, ap, sym, ◌∙◌}
use Rattle.std.proofs.lemmas.Iterator.Consumers.{YieldsList-end}
use Rattle.std.proofs.lemmas.Iterator.Splits.{YieldsList-from_str_split}
use Rattle.std.proofs.lemmas.List.Folds.{flat_map-map}
use Rattle.std.specs.List.{flat_map}
use Rattle.refusal_texts.specs.Explanations.{word_explained}
use Rattle.refusal_texts.specs.declared.table.TheConstants.{TABLE}
use Rattle.refusal_texts.proofs.explaining.explain.Goals as goal

pub returns : goal.returns
returns c =
    let printed = word_explained TABLE.now in
    let end = YieldsList-end (YieldsList-from_str_split 32 c.args.text.now (lit< tt) (search rules) (search rules)
    (search rules))
    c.loop-word.yielded _ c.loop-word.yielded_by _ _ c.in-None.is c.next.ensures.steps in
    c.loop-word.invariant ∙ sym (flat_map-map printed (λ x. x.now) c.loop-word.yielded) ∙ ap (flat_map printed) end.0
