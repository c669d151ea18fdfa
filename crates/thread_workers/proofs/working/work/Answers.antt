use Rattle.std.proofs.Common.{◌++◌, ◌∙◌, ap, map}
use Rattle.thread_workers.proofs.Made.{of_workers}
use Rattle.thread_workers.proofs.working.work.Goals as goal

pub returns-clause-calls : goal.returns-clause-calls
returns-clause-calls g c =
    let dones = c.in_ok-dones.dones.items in
    of_workers g.L.Label.config g.L.Label.seed _ c.in_ok-jobs.jobs.items dones _ _ c.in_ok-jobs.ensures.asks
    c.in_ok-dones.ensures.made c.in_ok-with_workers.ensures.memory (rw c.deref.ensures.value at c.in_ok-faults.ensures)
    (c.in_ok-with_workers.ensures.lists ∙ ap (λ ls. ls ++ map (λ d. d.receipts) dones) c.new.ensures.none)
