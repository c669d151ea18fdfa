use Rattle.http_service.specs.Exchanges.{pieces_of}
use Rattle.http_service.proofs.Exchanges.{goes_on_none}
use Rattle.http_service.proofs.exchange.Exchange.poll_reading.Goals as goal

pub returns-clause-goes_on : goal.returns-clause-goes_on
returns-clause-goes_on g c = λ keeps had h. (had, goes_on_none (pieces_of c.args.self.now.body) had, h)
