use Rattle.scripts.specs.Written.{line_answer}
use Rattle.scripts.proofs.Printed.{bytes_by_form, form_printed}
use Rattle.scripts.proofs.warn.warn_printing.Goals as goal

pub returns-clause-printed : goal.returns-clause-printed
returns-clause-printed c =
    bytes_by_form c.args.form c.args.line.now (line_answer c.args.world.now c.args.line.now) _ _ _ _ c.warn_line.result
    (form_printed c.args.form c.args.world.now c.args.line.now) c.requires.format c.in_ok-push_echo.ensures
    c.warn_line.ensures.printed
