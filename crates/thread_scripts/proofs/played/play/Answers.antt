use Rattle.std.proofs.Common.{subst}
use Rattle.thread_plans.specs.Plans.{plan_value}
use Rattle.thread_scripts.specs.Plays.{AreListsWaiting}
use Rattle.thread_scripts.proofs.Numbered.{IfOk-map}
use Rattle.thread_scripts.proofs.played.play.Goals as goal

pub returns-clause-lists : goal.returns-clause-lists
returns-clause-lists g c =
    let plan = plan_value c.args.plan.now in
    IfOk-map c.play_waiting.result _ _ (λ played is. (
      played.vain.items,
      subst (λ ws. AreListsWaiting plan ws played.lists.items (played.start_faults.items, played.faults.items)
          played.vain.items) c.none.ensures is,
    )) c.play_waiting.ensures.lists
