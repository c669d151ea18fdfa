use Rattle.thread_scripts.proofs.Numbered.{IfOk-map}
use Rattle.thread_scripts.proofs.Started.{either_way}
use Rattle.thread_scripts.proofs.beside.work_in.Goals as goal

pub returns-clause-gossiped : goal.returns-clause-gossiped
returns-clause-gossiped g c =
    IfOk-map c.gossip_beside-gossiped.result.receipts _ _ (λ rs is. either_way c.start_work-working.result _ _ is)
    c.gossip_beside-gossiped.ensures
