use Rattle.answers.specs.declared.printed.Format.TheVariants as formats
use Rattle.streams.specs.Streams.{Writes, WritesPrefix}
use Rattle.streams.specs.Watched.{inner_of}
use Rattle.thread_scripts.specs.Outputs.{ComesTo}
use Rattle.thread_scripts.proofs.Runs.{reported, reported_on_ok}
use Rattle.thread_scripts.proofs.run.run_threads.Goals as goal

pub returns-clause-ok : goal.returns-clause-ok
returns-clause-ok g c =
    let comes : ComesTo formats.Lines c.in_ok-script.script.items c.deref.result.now =
    rw (← c.as_slice.ensures.value, c.deref.ensures.value) c.in_ok-text.ensures.ok in
    reported_on_ok formats.Lines (Writes g.O.Write.contents c.args.writer.now c.write_text.new.writer)
    c.in_ok-script.script.items c.deref.result.now comes.0
    c.write_text.result (g.I.Read.remaining (inner_of c.args.reader.now)) c.in_ok-script.ensures.ok comes.1
    comes.2 c.write_text.ensures.ok

pub returns-clause-prefix : goal.returns-clause-prefix
returns-clause-prefix g c failed =
    let comes : ComesTo formats.Lines c.in_ok-script.script.items c.deref.result.now =
    rw (← c.as_slice.ensures.value, c.deref.ensures.value) c.in_ok-text.ensures.ok in
    reported formats.Lines (WritesPrefix g.O.Write.contents c.args.writer.now c.write_text.new.writer)
    c.in_ok-script.script.items c.deref.result.now comes.0
    (g.I.Read.remaining (inner_of c.args.reader.now)) c.in_ok-script.ensures.ok comes.1
    comes.2 c.write_text.ensures.prefix
