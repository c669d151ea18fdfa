use Rattle.std.proofs.Common.{sym, ◌∙◌}
use Rattle.std.proofs.lemmas.Slice.Zip.{AllZip-long}
use Rattle.std.specs.Prelude.{reverse}
use Rattle.node_registry.specs.Workers.{IsDone}
use Rattle.node_registry.proofs.WorkersLemmas.{AllNumbered-through, AllNumbered-of_map, through_worker}
use Rattle.node_registry.proofs.workers.run_all.Goals as goal

pub returns-clause-len : goal.returns-clause-len
returns-clause-len g c =
    c.join_all.result.ok.0
    ∙ AllZip-long _ c.start_all-workers.result.items c.join_all.result.items c.join_all.ensures
    ∙ sym c.start_all-workers.result.ok.0
    ∙ c.start_all-workers.ensures.len

pub returns-clause-each : goal.returns-clause-each
returns-clause-each g c =
    let says = g.G.Gate.says in
    let hears = g.G.Gate.hears in
    let gate = c.args.gate.now in
    AllNumbered-of_map (λ t. t.job) _ 0 (reverse c.args.crew.tasks.items) c.join_all.result.items
    (AllNumbered-through _ _ (λ n t d. IsDone g.L.Label.config g.L.Label.seed (says gate n) (hears gate n) t.job.seat
    t.job.asks.items d)
    (λ n t w d. through_worker (λ m x was asks y. IsDone g.L.Label.config g.L.Label.seed (says x m) (hears x m) was asks
    y) (λ h. h.promise.worker) (λ h. h.promise.gate.value) (λ h. h.promise.was.value) (λ h. h.promise.asks.value.items) n
    gate t.job.seat t.job.asks.items w d)
    0 (reverse c.args.crew.tasks.items) c.start_all-workers.result.items c.join_all.result.items
    c.start_all-workers.ensures.each c.join_all.ensures)
