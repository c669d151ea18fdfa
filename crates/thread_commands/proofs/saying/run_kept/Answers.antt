use Rattle.std.proofs.Common.{◌≡◌, Err}
use Rattle.streams.specs.Watched.{inner_of}
use Rattle.thread_plans.specs.BadLines.{bad_lines}
use Rattle.thread_plans.specs.Plans.{plan_in}
use Rattle.thread_scripts.specs.Outputs.{ComesToSaying}
use Rattle.thread_scripts.proofs.Runs.{on_text}
use Rattle.thread_warnings.proofs.Inputs.{in_input}
use Rattle.thread_commands.proofs.saying.run_kept.Goals as goal

pub returns-clause-ok : goal.returns-clause-ok
returns-clause-ok g c =
    let ran = rw c.as_slice.ensures.value at c.run_script.ensures.ok in
    on_text (λ bytes printed. ComesToSaying c.args.format bytes printed.items c.run_script.new.said)
    c.in_ok-script.script.items c.run_script.result (g.I.Read.remaining (inner_of c.args.reader.now))
    c.in_ok-script.ensures.ok ran

pub returns-clause-bad_line : goal.returns-clause-bad_line
returns-clause-bad_line g c = λ line bad.
    let first = rw c.as_slice.ensures.value at (c.run_script.ensures.bad_line line bad) in
    in_input (λ bytes. plan_in bytes ≡ Err line) c.in_ok-script.script.items
    (g.I.Read.remaining (inner_of c.args.reader.now)) c.in_ok-script.ensures.ok first

pub returns-clause-bad_said : goal.returns-clause-bad_said
returns-clause-bad_said g c = λ line bad.
    let said = rw c.as_slice.ensures.value at (c.run_script.ensures.bad_said line bad) in
    in_input (λ bytes. c.run_script.new.said ≡ bad_lines bytes) c.in_ok-script.script.items
    (g.I.Read.remaining (inner_of c.args.reader.now)) c.in_ok-script.ensures.ok said
