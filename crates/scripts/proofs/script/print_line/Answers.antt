use Rattle.scripts.specs.Written.{line_answer}
use Rattle.scripts.proofs.Printed.{bytes_by_form, form_printed}
use Rattle.scripts.proofs.script.print_line.Goals as goal

pub returns-clause-bytes : goal.returns-clause-bytes
returns-clause-bytes c =
    bytes_by_form c.args.form c.args.line.now (line_answer c.args.world.now c.args.line.now) _ _ _ _ c.run_line.result
    (form_printed c.args.form c.args.world.now c.args.line.now) c.requires c.in_ok-push_echo.ensures
    c.run_line.ensures.answer
