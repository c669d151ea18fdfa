use Rattle.thread_plans.specs.Plans.{plan_value}
use Rattle.thread_commands.proofs.Recorded.{of_no_line, played}
use Rattle.thread_commands.proofs.part_recording.run_in_parts.Goals as goal

pub returns-clause-ok : goal.returns-clause-ok
returns-clause-ok g c =
    played _ c.args.format c.args.script.now (plan_value c.in_ok-plan.plan) c.play_in_parts.new.said
    c.play_in_parts.result c.in_ok-plan.ensures.ok c.play_in_parts.ensures.ok

pub returns-clause-bad_line : goal.returns-clause-bad_line
returns-clause-bad_line g c = λ line bad. absurd (of_no_line c.play_in_parts.result c.play_in_parts.ensures.only line bad)

pub returns-clause-bad_said : goal.returns-clause-bad_said
returns-clause-bad_said g c = λ line bad. absurd (of_no_line c.play_in_parts.result c.play_in_parts.ensures.only line bad)

pub play_in_parts-requires-clause-files : goal.play_in_parts-requires-clause-files
play_in_parts-requires-clause-files g c = λ κs lives. rw c.deref_mut.ensures.value c.in_ok-files.ensures.number

pub play_in_parts-requires-clause-sound : goal.play_in_parts-requires-clause-sound
play_in_parts-requires-clause-sound g c = λ κs lives. rw c.deref_mut.ensures.value c.in_ok-files.ensures.sound
