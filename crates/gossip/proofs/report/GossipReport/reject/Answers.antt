use Rattle.gossip.proofs.CarryLemmas.{none_rejected, one_rejected}
use Rattle.gossip.proofs.report.GossipReport.reject.Goals as goal

pub returns-in_err-refuse-clause-rejected : goal.returns-in_err-refuse-clause-rejected
returns-in_err-refuse-clause-rejected c =
    none_rejected c.args.sender c.refuse.result _ c.in_err-refuse.was c.refuse.ensures.memory c.refuse.ensures.rejected

pub returns-clause-rejected : goal.returns-clause-rejected
returns-clause-rejected c =
    one_rejected c.args.sender c.refuse.result _ c.in_ok-refuse.was c.refuse.ensures.memory c.refuse.ensures.rejected
    c.push_reserved.ensures.items
