use Rattle.std.proofs.Common.{ap, ◌∙◌}
use Rattle.gossip.specs.Mailboxes.{posts, traffic_of}
use Rattle.gossip.proofs.MailLemmas.{mailbox_at, posted_in}
use Rattle.gossip.proofs.mail.MailWireWire.send.Goals as goal

pub returns-clause-posts : goal.returns-clause-posts
returns-clause-posts g c =
    let at = c.in-Some.ensures.lookup in
    let same = c.deref-2.ensures.value ∙ ap (λ v. v.items) c.deref.ensures in
    let node = mailbox_at _ _ _ _ _ same c.self.invariant.1 at.3.0 at.1 in
    let posted = c.in_ok-posted.ensures in
    posted_in _ _ _ _ _ _ _ _ c.add.ensures (posted.to ∙ node ∙ c.from.ensures)
    (ap (λ v. v.items) posted.message ∙ c.in_ok-message.ensures.items)
    ∙ ap (posts c.args.to c.args.message.now) c.self.view_is

pub returns-clause-ok : goal.returns-clause-ok
returns-clause-ok g c = ap traffic_of (returns-clause-posts g c)
