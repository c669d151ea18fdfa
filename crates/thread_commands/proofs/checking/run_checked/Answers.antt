use Rattle.std.proofs.Common.{◌≡◌}
use Rattle.streams.specs.Watched.{inner_of}
use Rattle.thread_checks.specs.Checked.{plain_text}
use Rattle.thread_commands.specs.Checked.{ChecksTo}
use Rattle.thread_plans.specs.BadLines.{bad_lines}
use Rattle.thread_scripts.proofs.Runs.{on_text}
use Rattle.thread_warnings.proofs.Inputs.{in_input}
use Rattle.thread_commands.proofs.checking.run_checked.Goals as goal

pub returns-clause-ok : goal.returns-clause-ok
returns-clause-ok g c =
    let ran = rw c.as_slice.ensures.value at c.check_script.ensures.ok in
    on_text (λ bytes printed. ChecksTo c.args.format bytes printed.items c.check_script.new.said)
    c.in_ok-script.script.items c.check_script.result (g.I.Read.remaining (inner_of c.args.reader.now))
    c.in_ok-script.ensures.ok ran

pub returns-clause-bad_said : goal.returns-clause-bad_said
returns-clause-bad_said g c = λ line bad.
    let said = rw c.as_slice.ensures.value at (c.check_script.ensures.bad_said line bad) in
    in_input (λ bytes. c.check_script.new.said ≡ bad_lines (plain_text bytes)) c.in_ok-script.script.items
    (g.I.Read.remaining (inner_of c.args.reader.now)) c.in_ok-script.ensures.ok said
