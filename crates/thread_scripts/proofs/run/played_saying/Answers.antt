use Rattle.thread_plans.specs.Plans.{plan_value}
use Rattle.thread_scripts.proofs.run.played_saying.Goals as goal

pub returns-clause-ok : goal.returns-clause-ok
returns-clause-ok g c =
    let played = c.in_ok-played.played in (
      plan_value c.in_ok-plan.plan,
      played.traces.items,
      played.lists.items,
      (played.start_faults.items, played.faults.items),
      c.in_ok-plan.ensures.ok,
      c.in_ok-played.ensures.traces,
      c.in_ok-played.ensures.lists,
      c.in_ok-printed.ensures,
    )
