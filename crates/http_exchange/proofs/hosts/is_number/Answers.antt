use Rattle.std.proofs.Common.{◌∙◌, ap, ℕ, List, is_some}
use Rattle.decimals.specs.Decimals.{number_of}
use Rattle.http_exchange.proofs.Ports.{is_port-text, is_port-other}
use Rattle.http_exchange.proofs.hosts.is_number.Goals as goal

pub returns-in-Ok : goal.returns-in-Ok
returns-in-Ok c = rw (is_port-text c.args.port.now c.in-Ok.ensures.cases.1)
    (c.is_some.ensures ∙ ap is_some c.number.ensures.value ∙
    ap (λ (t : List ℕ). is_some (number_of 65535 t)) c.in-Ok.ensures.cases.0)

pub returns-in-Err : goal.returns-in-Err
returns-in-Err c = is_port-other c.args.port.now c.in-Err.ensures.cases.0
