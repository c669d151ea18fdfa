use Rattle.std.proofs.Common.{◌≡◌}
use Rattle.std.specs.Prelude.{IfOk}
use Rattle.streams.specs.Watched.{inner_of}
use Rattle.thread_scripts.specs.Outputs.{ComesToSaying}
use Rattle.thread_scripts.proofs.Runs.{on_text}
use Rattle.thread_scripts.proofs.run.run_threads_warning.Goals as goal

pub returns-clause-ok : goal.returns-clause-ok
returns-clause-ok g c =
    let told = rw c.as_slice.ensures.value at c.played_saying.ensures.ok in
    on_text (λ bytes printed. ComesToSaying c.args.format bytes printed.items c.played_saying.new.said)
    c.in_ok-script.script.items c.played_saying.result (g.I.Read.remaining (inner_of c.args.reader.now))
    c.in_ok-script.ensures.ok told
