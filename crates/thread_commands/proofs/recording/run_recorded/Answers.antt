use Rattle.thread_plans.specs.Plans.{plan_value}
use Rattle.thread_commands.proofs.Recorded.{of_no_line, played}
use Rattle.thread_commands.proofs.recording.run_recorded.Goals as goal

pub returns-clause-ok : goal.returns-clause-ok
returns-clause-ok g c =
    played _ c.args.format c.args.script.now (plan_value c.in_ok-plan.plan) c.play_recorded.new.said
    c.play_recorded.result c.in_ok-plan.ensures.ok c.play_recorded.ensures.ok

pub returns-clause-bad_line : goal.returns-clause-bad_line
returns-clause-bad_line g c = λ line bad. absurd (of_no_line c.play_recorded.result c.play_recorded.ensures.only line bad)

pub returns-clause-bad_said : goal.returns-clause-bad_said
returns-clause-bad_said g c = λ line bad. absurd (of_no_line c.play_recorded.result c.play_recorded.ensures.only line bad)
