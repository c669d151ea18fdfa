use Rattle.std.proofs.Common.{false, refl}
use Rattle.streams.specs.Watched.{has_failed, inner_of}
use Rattle.streams.specs.declared.fault.ScriptFault.TheVariants as faults
use Rattle.commands.specs.Formats.{answer_format}
use Rattle.thread_commands.specs.Said.{TellsWith}
use Rattle.thread_commands.proofs.Ended.{plays, refused, refused_at, too_long, zero_or_one}
use Rattle.thread_commands.proofs.thread_runs.threads.Goals as goal

pub returns-clause-done : goal.returns-clause-done
returns-clause-done g c =
    let ended = rw (c.heard-said.ensures, c.answer_format-format.ensures) at c.end_run.ensures.ended in
    let ran = rw c.answer_format-format.ensures at c.run_saying-run.ensures.ok in
    plays c.end_run.result (has_failed c.end_run.new.writer) c.run_saying-run.result
    (answer_format c.args.options.json) c.args.options.quiet c.run_saying-run.new.said
    (g.I.Read.remaining (inner_of c.args.reader.now)) (TellsWith (answer_format c.args.options.json)
    g.O.Write.contents c.args.writer.now c.end_run.new.writer g.E.Write.contents c.args.errors.now c.end_run.new.errors)
    (ended, c.end_run.ensures.write_failed) ran

pub returns-clause-refused : goal.returns-clause-refused
returns-clause-refused g c = λ sound.
    let ended = rw (c.heard-said.ensures, c.answer_format-format.ensures) at c.end_run.ensures.ended in
    refused c.end_run.result (has_failed c.end_run.new.writer) c.run_saying-run.result c.args.options.quiet
    c.run_saying-run.new.said c.new-said.result (g.I.Read.remaining (inner_of c.args.reader.now))
    (TellsWith (answer_format c.args.options.json) g.O.Write.contents c.args.writer.now c.end_run.new.writer
    g.E.Write.contents c.args.errors.now c.end_run.new.errors)
    (ended, c.end_run.ensures.write_failed) c.new-said.ensures c.run_saying-run.ensures.bad_said
    c.run_saying-run.ensures.unsaid sound

pub returns-clause-long : goal.returns-clause-long
returns-clause-long g c =
    too_long c.end_run.result (has_failed c.end_run.new.writer) false c.run_saying-run.result _ c.heard-said.result
    (TellsWith c.answer_format-format.result g.O.Write.contents c.args.writer.now c.end_run.new.writer
    g.E.Write.contents c.args.errors.now c.end_run.new.errors)
    (g.I.Read.remaining (inner_of c.args.reader.now)) _ (c.end_run.ensures.ended, c.end_run.ensures.write_failed)
    (λ fault other is. refl) c.run_saying-run.ensures.read_failed c.run_saying-run.ensures.long

pub returns-clause-status : goal.returns-clause-status
returns-clause-status g c =
    zero_or_one c.end_run.result (has_failed c.end_run.new.writer) c.run_saying-run.result c.heard-said.result
    (TellsWith c.answer_format-format.result g.O.Write.contents c.args.writer.now c.end_run.new.writer
    g.E.Write.contents c.args.errors.now c.end_run.new.errors)
    (c.end_run.ensures.ended, c.end_run.ensures.write_failed)

pub returns-clause-read_failed : goal.returns-clause-read_failed
returns-clause-read_failed g c = λ met.
    refused_at c.end_run.result (has_failed c.end_run.new.writer) false c.run_saying-run.result faults.ReadFailed
    c.heard-said.result (TellsWith c.answer_format-format.result g.O.Write.contents c.args.writer.now
    c.end_run.new.writer g.E.Write.contents c.args.errors.now c.end_run.new.errors)
    (c.end_run.ensures.ended, c.end_run.ensures.write_failed) (c.run_saying-run.ensures.read_failed.1 met) refl
