use Rattle.std.proofs.Common.{rules, tests}
use Rattle.std.proofs.lemmas.Iterator.Search.{all_from_yields_List}
use Rattle.std.proofs.lemmas.Iterator.Splits.{YieldsList-from_slice_split}
use Rattle.http_routes.specs.Digests.{agrees, is_between_words}
use Rattle.http_routes.proofs.digest.is_intact.Goals as goal

pub returns : goal.returns
returns c = all_from_yields_List (agrees c.args.digest.now) _ _ _ c.all.ensures.ran
    (YieldsList-from_slice_split _ is_between_words c.args.field.now (search rules) (search rules) (search rules)
    (λ x r q k. search (rules, tests)))
    (λ x b q k. search (rules, tests))
