use Rattle.std.proofs.Common.{◌≡◌, IfOk, Result, subst, arith}
use Rattle.std.specs.Prelude.{option_map}
use Rattle.std.specs.declared.alloc.AllocError.{AllocError}
use Rattle.thread_plans.specs.Plans.{plan_value}
use Rattle.thread_scripts.specs.Plays.{AreOfNode, IsTraceOf, config_at, gossip_at}
use Rattle.thread_scripts.specs.declared.nodes.NodeJob.{NodeJob}
use Rattle.thread_scripts.specs.declared.nodes.NodePlayed.{NodePlayed}
use Rattle.thread_scripts.proofs.Numbered.{AllFrom-returned, IfOk-both}
use Rattle.thread_scripts.proofs.played.run_all.Goals as goal

pub returns-clause-each : goal.returns-clause-each
returns-clause-each g c =
    let plan = plan_value c.args.plan.now in
    let seed = c.args.plan.now.seed in
    let jobs = c.in_ok-jobs.jobs in
    IfOk-both c.map_vec.result _ _ _
    (λ v long each.
    AllFrom-returned {J = NodeJob} {R = Result NodePlayed AllocError}
    (λ n j. (j.config ≡ config_at plan n) × (option_map (λ g. (g.wire, g.rounds)) j.gossip ≡ gossip_at plan n))
    (λ n r. IfOk r (λ p. IsTraceOf (config_at plan n) seed p.trace))
    (λ j r. IfOk r (λ p. IsTraceOf j.config seed p.trace))
    (λ n j r is h. subst (λ k. IfOk r (λ p. IsTraceOf k seed p.trace)) is.0 h)
    0 jobs.items v.items (omega (arith, long, v.ok.0, jobs.ok.0)) c.in_ok-jobs.ensures.each
    (λ i d below. let e = (each i d below).1 in (e.job, e.job_is, e.call.met.0)))
    c.map_vec.ensures.len c.map_vec.ensures.each

pub returns-clause-lists : goal.returns-clause-lists
returns-clause-lists g c =
    let plan = plan_value c.args.plan.now in
    let seed = c.args.plan.now.seed in
    let waits = c.args.waits.now.awaits.items in
    let jobs = c.in_ok-jobs.jobs in
    IfOk-both c.map_vec.result _ _ _
    (λ v long each.
    AllFrom-returned {J = NodeJob} {R = Result NodePlayed AllocError}
    (λ n j. (j.config ≡ config_at plan n) × (option_map (λ g. (g.wire, g.rounds)) j.gossip ≡ gossip_at plan n))
    (λ n r. IfOk r (λ p. AreOfNode (config_at plan n) seed plan (gossip_at plan n) waits p.lists.items
    (p.start_faults.items, p.faults.items) p.vain.items))
    (λ j r. IfOk r (λ p. AreOfNode j.config seed plan (option_map (λ g. (g.wire, g.rounds)) j.gossip) waits p.lists.items
    (p.start_faults.items, p.faults.items) p.vain.items))
    (λ n j r is h.
    subst (λ k. IfOk r (λ p. AreOfNode k seed plan (gossip_at plan n) waits p.lists.items
    (p.start_faults.items, p.faults.items) p.vain.items)) is.0
    (subst (λ o. IfOk r (λ p. AreOfNode j.config seed plan o waits p.lists.items
    (p.start_faults.items, p.faults.items) p.vain.items)) is.1 h))
    0 jobs.items v.items (omega (arith, long, v.ok.0, jobs.ok.0)) c.in_ok-jobs.ensures.each
    (λ i d below. let e = (each i d below).1 in (e.job, e.job_is, e.call.met.1)))
    c.map_vec.ensures.len c.map_vec.ensures.each
