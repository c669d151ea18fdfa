use Rattle.std.proofs.Common.{rules}
use Rattle.std.proofs.lemmas.List.Elements.{filter_from_retain}
use Rattle.operations.specs.Counts.{is_hits}
use Rattle.op_set.proofs.point.keep_hits.Goals as goal

pub returns-clause-items : goal.returns-clause-items
returns-clause-items c = filter_from_retain _ (λ count. is_hits count.counted) (λ f x b f' k. search rules) _ _ _
    c.retain.ensures.filtered
