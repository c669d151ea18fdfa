use Rattle.http_exchange.proofs.Loopback.{accepted_v4, rejected_v4}
use Rattle.http_exchange.proofs.hosts.is_loopback_v4.Goals as goal

pub returns-in-Ok : goal.returns-in-Ok
returns-in-Ok c = accepted_v4 c.args.text.now c.in-Ok.address c.in-Ok.ensures c.is_loopback.result c.is_loopback.ensures

pub returns-in-Err : goal.returns-in-Err
returns-in-Err c = rejected_v4 c.args.text.now c.in-Err.ensures
