use Rattle.std.proofs.Common.{true≢false, sym}
use Rattle.thread_workers.proofs.Made.{each_made}
use Rattle.thread_workers.proofs.Seats.{each_counted, each_given}
use Rattle.thread_workers.proofs.working.make_calls.Goals as goal

pub returns-in-Ok-clause-counted : goal.returns-in-Ok-clause-counted
returns-in-Ok-clause-counted g c =
    each_counted g.L.Label.config g.L.Label.seed _ _ 0 c.args.jobs.items c.in-Ok.dones.items c.in-Ok.ensures.done
    c.requires.fresh

pub returns-in-Ok-clause-given : goal.returns-in-Ok-clause-given
returns-in-Ok-clause-given g c =
    each_given g.L.Label.config g.L.Label.seed _ _ 0 c.args.jobs.items c.in-Ok.dones.items c.in-Ok.ensures.done
    c.requires.fresh

pub returns-in-Ok-clause-made : goal.returns-in-Ok-clause-made
returns-in-Ok-clause-made g c =
    each_made g.L.Label.config g.L.Label.seed _ _ (λ n k closed. true≢false (sym closed)) 0 c.args.jobs.items
    c.in-Ok.dones.items c.in-Ok.ensures.done
