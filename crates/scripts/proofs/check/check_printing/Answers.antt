use Rattle.scripts.specs.Checks.{checked_answer}
use Rattle.scripts.proofs.Printed.{bytes_by_form, form_checked}
use Rattle.scripts.proofs.check.check_printing.Goals as goal

pub returns-clause-printed : goal.returns-clause-printed
returns-clause-printed c =
    bytes_by_form c.args.form c.args.line.now (checked_answer c.args.world.now c.args.line.now) _ _ _ _
    c.check_line.result (form_checked c.args.form c.args.world.now c.args.line.now) c.requires.format
    c.in_ok-push_echo.ensures c.check_line.ensures.printed
