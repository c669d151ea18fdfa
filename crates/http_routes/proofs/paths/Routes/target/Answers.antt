use Rattle.std.proofs.Common.{sym, ◌∙◌}
use Rattle.http_routes.proofs.Leading.{leads-first}
use Rattle.http_routes.proofs.paths.Routes.target.Goals as goal

pub returns-in-Ok : goal.returns-in-Ok
returns-in-Ok c =
    let led = leads-first c.args.path.now _ (rw c.args.self.now.whole at c.in-Ok.ensures.found) in
    let parts = rw c.in-Ok.ensures.path at c.with_parts.ensures in
    parts (led.0 c.utf8.path) ∙ sym led.1

pub returns-in-Err : goal.returns-in-Err
returns-in-Err c =
    sym (leads-first c.args.path.now _ (rw c.args.self.now.whole at c.in-Err.ensures.missing))
