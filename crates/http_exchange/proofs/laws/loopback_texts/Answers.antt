use Rattle.http_exchange.proofs.Loopback.{loopback_v4, loopback_v6}
use Rattle.http_exchange.proofs.laws.loopback_texts.Goals as goal

pub returns-clause-v4 : goal.returns-clause-v4
returns-clause-v4 c = loopback_v4

pub returns-clause-v6 : goal.returns-clause-v6
returns-clause-v6 c = loopback_v6
