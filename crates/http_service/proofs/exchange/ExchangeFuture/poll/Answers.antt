use Rattle.std.proofs.Common.{rules}
use Rattle.http_service.proofs.Exchanges.{gives_later, refused_so}
use Rattle.http_service.proofs.exchange.ExchangeFuture.poll.Goals as goal

pub returns-clause-same : goal.returns-clause-same
returns-clause-same g c = λ given.
    gives_later g.H.Handler.answers c.args.self.now c.poll_reading.new.self given (search rules)
    c.poll_reading.ensures.refusal (search rules) c.poll_reading.ensures.told c.poll_reading.ensures.asking
    (search rules)

pub returns-in-Some-clause-value : goal.returns-in-Some-clause-value
returns-in-Some-clause-value g c =
    refused_so g.H.Handler.answers c.args.self.now c.in-Some.refusal c.reply-reply.result
    c.labels.result c.respond-given.result c.in-Some.is c.reply-reply.ensures c.labels.ensures c.respond-given.ensures
