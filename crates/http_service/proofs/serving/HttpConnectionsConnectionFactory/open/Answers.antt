use Rattle.std.proofs.lemmas.Option.{IfSome_then}
use Rattle.std.proofs.Common.{sym, subst}
use Rattle.http_service.specs.Exchanges.{IsOffered}
use Rattle.http_service.proofs.serving.HttpConnectionsConnectionFactory.open.Goals as goal

pub returns-clause-whole : goal.returns-clause-whole
returns-clause-whole g c =
    IfSome_then c.new.result c.new.ensures.whole
    (λ task is. (c.from_secs-whole.result, c.from_secs-whole.ensures, is))

pub returns-clause-offer : goal.returns-clause-offer
returns-clause-offer g c =
    IfSome_then c.new.result c.new.ensures.connection
    (λ task is. subst (λ t. IsOffered c.args.self.now.offer t.served.conn.service) (sym is)
    c.in_ok-connection.ensures.offer)
