use Rattle.std.proofs.Common.{true}
use Rattle.streams.specs.Watched.{has_failed, inner_of}
use Rattle.streams.specs.declared.fault.ScriptFault.TheVariants as faults
use Rattle.commands.specs.Formats.{answer_format}
use Rattle.thread_commands.specs.Said.{TellsWith, is_wrong}
use Rattle.thread_commands.proofs.CheckedRuns.{fails, right_at, silent_where_good, zero_one_or_three}
use Rattle.thread_commands.proofs.Ended.{refused_at, too_long}
use Rattle.thread_commands.proofs.checking.check_threads.Goals as goal

pub returns-clause-good : goal.returns-clause-good
returns-clause-good g c =
    let ended = rw c.answer_format-format.ensures at c.end_run.ensures.ended in
    let ran = rw c.answer_format-format.ensures at c.run_checked-run.ensures.ok in
    silent_where_good c.end_run.result (has_failed c.end_run.new.writer) c.run_checked-run.result
    (answer_format c.args.options.json) c.run_checked-run.new.said (g.I.Read.remaining (inner_of c.args.reader.now))
    (TellsWith (answer_format c.args.options.json) g.O.Write.contents c.args.writer.now c.end_run.new.writer
    g.E.Write.contents c.args.errors.now c.end_run.new.errors) (ended, c.end_run.ensures.write_failed) ran

pub returns-clause-failed : goal.returns-clause-failed
returns-clause-failed g c =
    let ended = rw c.answer_format-format.ensures at c.end_run.ensures.ended in
    let ran = rw c.answer_format-format.ensures at c.run_checked-run.ensures.ok in
    fails c.end_run.result (has_failed c.end_run.new.writer) c.run_checked-run.result
    (answer_format c.args.options.json) c.run_checked-run.new.said c.new-said.result
    (g.I.Read.remaining (inner_of c.args.reader.now)) (TellsWith (answer_format c.args.options.json)
    g.O.Write.contents c.args.writer.now c.end_run.new.writer g.E.Write.contents c.args.errors.now c.end_run.new.errors)
    (ended, c.end_run.ensures.write_failed) ran c.new-said.ensures c.run_checked-run.ensures.bad_said
    c.run_checked-run.ensures.unsaid

pub returns-clause-long : goal.returns-clause-long
returns-clause-long g c =
    too_long c.end_run.result (has_failed c.end_run.new.writer) (is_wrong true c.run_checked-run.new.said)
    c.run_checked-run.result _ c.run_checked-run.new.said
    (TellsWith c.answer_format-format.result g.O.Write.contents c.args.writer.now c.end_run.new.writer
    g.E.Write.contents c.args.errors.now c.end_run.new.errors)
    (g.I.Read.remaining (inner_of c.args.reader.now)) _ (c.end_run.ensures.ended, c.end_run.ensures.write_failed)
    (right_at c.run_checked-run.result c.run_checked-run.new.said c.new-said.result c.new-said.ensures
    c.run_checked-run.ensures.unsaid) c.run_checked-run.ensures.read_failed c.run_checked-run.ensures.long

pub returns-clause-read_failed : goal.returns-clause-read_failed
returns-clause-read_failed g c = λ met.
    let is = c.run_checked-run.ensures.read_failed.1 met in
    refused_at c.end_run.result (has_failed c.end_run.new.writer) (is_wrong true c.run_checked-run.new.said)
    c.run_checked-run.result faults.ReadFailed c.run_checked-run.new.said
    (TellsWith c.answer_format-format.result g.O.Write.contents c.args.writer.now c.end_run.new.writer
    g.E.Write.contents c.args.errors.now c.end_run.new.errors)
    (c.end_run.ensures.ended, c.end_run.ensures.write_failed) is
    (right_at c.run_checked-run.result c.run_checked-run.new.said c.new-said.result c.new-said.ensures
    c.run_checked-run.ensures.unsaid faults.ReadFailed (λ line e. cc) is)

pub returns-clause-status : goal.returns-clause-status
returns-clause-status g c =
    zero_one_or_three c.end_run.result (has_failed c.end_run.new.writer) (is_wrong true c.run_checked-run.new.said)
    c.run_checked-run.result c.run_checked-run.new.said
    (TellsWith c.answer_format-format.result g.O.Write.contents c.args.writer.now c.end_run.new.writer
    g.E.Write.contents c.args.errors.now c.end_run.new.errors)
    (c.end_run.ensures.ended, c.end_run.ensures.write_failed)
