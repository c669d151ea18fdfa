use Rattle.std.proofs.Common.{sym, ◌∙◌}
use Rattle.http_wire.proofs.SentLemmas.{sent_at, sent_more}
use Rattle.http_wire.proofs.wire.HttpWireWire.send.Goals as goal

pub returns-in-Ok-clause-posted : goal.returns-in-Ok-clause-posted
returns-in-Ok-clause-posted g c = sent_at (sym c.address_of.ensures ∙ c.in-Some.is) c.in-Ok.ensures.posted

pub returns-in-Ok-clause-ok : goal.returns-in-Ok-clause-ok
returns-in-Ok-clause-ok g c = sent_more (returns-in-Ok-clause-posted g c)
