use Rattle.std.proofs.Common.{ap, ◌∙◌, Some}
use Rattle.http_routes.proofs.Texts.{text_in-text, text_in-other}
use Rattle.http_routes.proofs.wanted.text_of.Goals as goal

pub returns-in-Ok : goal.returns-in-Ok
returns-in-Ok c = ap Some c.in-Ok.ensures.cases.0 ∙ text_in-text c.args.bytes.now c.in-Ok.ensures.cases.1

pub returns-in-Err : goal.returns-in-Err
returns-in-Err c = text_in-other c.args.bytes.now c.in-Err.ensures.cases.0
