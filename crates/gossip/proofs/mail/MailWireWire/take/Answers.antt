use Rattle.std.proofs.Common.{◌<◌, length, option_map, ap, ◌∙◌, arith}
use Rattle.gossip.specs.Mailboxes.{finds, traffic_of}
use Rattle.gossip.proofs.MailLemmas.{found_in, mailbox_at, traffic_found}
use Rattle.gossip.proofs.mail.MailWireWire.take.Goals as goal

pub returns-clause-finds : goal.returns-clause-finds
returns-clause-finds g c =
    let same = ap (λ v. v.items) c.deref.ensures in
    let lt : c.from.result < length c.deref.result.now.items =
    omega (arith, c.self.invariant.0, c.from.ensures, ap length same) in
    let node = mailbox_at _ _ _ _ _ same c.self.invariant.1 lt c.index.ensures in
    found_in _ _ _ _ _ _ _ c.add.ensures (c.look-look.ensures ∙ node ∙ c.from.ensures) c.into_found.ensures
    ∙ ap (finds (option_map (λ m. m.items) c.into_found.result)) c.self.view_is

pub returns-clause-ok : goal.returns-clause-ok
returns-clause-ok g c =
    ap traffic_of (returns-clause-finds g c) ∙ traffic_found (option_map (λ m. m.items) c.into_found.result) c.args.self.now
