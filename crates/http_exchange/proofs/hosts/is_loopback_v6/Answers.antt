use Rattle.http_exchange.proofs.Loopback.{accepted_v6, rejected_v6}
use Rattle.http_exchange.proofs.hosts.is_loopback_v6.Goals as goal

pub returns-in-Ok : goal.returns-in-Ok
returns-in-Ok c = accepted_v6 c.args.text.now c.in-Ok.address c.in-Ok.ensures c.is_loopback.result c.is_loopback.ensures

pub returns-in-Err : goal.returns-in-Err
returns-in-Err c = rejected_v6 c.args.text.now c.in-Err.ensures
