use Rattle.audit.specs.Answers.{events_in}
use Rattle.audit.specs.Traces.{audited}
use Rattle.uses.proofs.audit_caller.explained.Goals as goal

pub returns : goal.returns
returns c place total there =
    c.totals_are_kept.ensures (audited c.args.nodes) (events_in c.args.nodes c.args.traces.now
    c.in_ok-found.found.order.items) c.in_ok-found.found.totals.items
    c.in_ok-found.ensures.escrow c.in_ok-found.ensures.totals place total there
