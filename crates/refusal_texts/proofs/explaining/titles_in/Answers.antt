use Rattle.std.proofs.Common.{rules, lit<, ℕ, List, ap, sym, ◌∙◌}
use Rattle.std.proofs.lemmas.Iterator.Consumers.{YieldsList-end}
use Rattle.std.proofs.lemmas.Iterator.Splits.{YieldsList-from_str_split}
use Rattle.std.proofs.lemmas.List.Folds.{flat_map-map}
use Rattle.std.specs.List.{flat_map}
use Rattle.streams.specs.Fields.{output_line}
use Rattle.refusal_texts.specs.Explanations.{title_of}
use Rattle.refusal_texts.proofs.explaining.titles_in.Goals as goal

pub returns : goal.returns
returns c =
    let printed = λ (entry : List ℕ). output_line (title_of entry) in
    let end = YieldsList-end (YieldsList-from_str_split 124 c.args.table.now (lit< tt) (search rules) (search rules)
    (search rules))
    c.loop-entry.yielded _ c.loop-entry.yielded_by _ _ c.in-None.is c.next.ensures.steps in
    c.loop-entry.invariant ∙ sym (flat_map-map printed (λ x. x.now) c.loop-entry.yielded) ∙ ap (flat_map printed) end.0
