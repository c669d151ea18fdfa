use Rattle.std.proofs.Common.{option_map, subst, sym}
use Rattle.thread_plans.specs.Plans.{plan_value}
use Rattle.thread_warnings.specs.Runs.{RunFaults}
use Rattle.thread_scripts.specs.Plays.{AreOfNode}
use Rattle.thread_scripts.proofs.nodes.run_registry.Goals as goal

pub returns-clause-trace : goal.returns-clause-trace
returns-clause-trace g c =
    let all = c.close-trace.ensures.all c.requires.keeps in
    rw (c.requires.config, c.requires.seed) record { legal = all.legal; drawn = all.drawn }

pub returns-clause-lists : goal.returns-clause-lists
returns-clause-lists g c =
    let plan = plan_value c.args.plan.now in
    let gossip = option_map (λ g. (g.wire, g.rounds)) c.args.job.gossip in
    let made = c.in_ok-finished.field-0 in
    let lists = made.finished.lists.items in
    let faults : RunFaults = (made.start_faults.items, made.faults.items) in
    let vain = made.vain.items in
    subst (λ ws. AreOfNode c.args.job.config c.args.plan.now.seed plan gossip ws lists faults vain)
    (sym c.requires.waits)
    (subst (λ k. AreOfNode k c.args.plan.now.seed plan gossip g.L.Waiting.waits lists faults vain) (sym c.requires.config)
    (subst (λ s. AreOfNode g.L.Label.config s plan gossip g.L.Waiting.waits lists faults vain) (sym c.requires.seed)
    c.in_ok-finished.ensures.calls))
