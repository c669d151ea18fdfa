use Rattle.std.proofs.Common.{ap, sym, ◌∙◌}
use Rattle.actions.specs.Reading.{reading}
use Rattle.uses.proofs.actions_caller.shortest.Goals as goal

pub returns-clause-same : goal.returns-clause-same
returns-clause-same c =
    ap reading (c.in_ok-spelling.ensures.ok ∙ c.text.ensures.value) ∙ c.text.ensures.reads ∙
    sym c.in_ok-actions.ensures.exact

pub returns-clause-no_longer : goal.returns-clause-no_longer
returns-clause-no_longer c = rw (c.in_ok-spelling.ensures.ok ∙ c.text.ensures.value) c.in_ok-actions.ensures.no_longer
