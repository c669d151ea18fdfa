use Rattle.std.proofs.Common.{rules, tests}
use Rattle.std.proofs.lemmas.Iterator.Search.{any_from_yields_List}
use Rattle.std.proofs.lemmas.Iterator.Splits.{YieldsList-from_slice_split}
use Rattle.http_exchange.specs.Tags.{is_between_tags, stands_for}
use Rattle.http_exchange.proofs.tags.lists.Goals as goal

pub returns : goal.returns
returns c = any_from_yields_List (stands_for c.args.tag.now) _ _ _ c.any.ensures.ran
    (YieldsList-from_slice_split _ is_between_tags c.args.list.now (search rules) (search rules) (search rules)
    (λ x r q k. search (rules, tests)))
    (λ x b q k. search (rules, tests))
