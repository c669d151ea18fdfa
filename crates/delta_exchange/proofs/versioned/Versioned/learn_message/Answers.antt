use Rattle.std.proofs.Common.{◌≡◌, ap, ◌∙◌}
use Rattle.message_format.specs.Messages.{message_value, operations_in}
use Rattle.delta_exchange.specs.Versions.{value_of, version_of, known_raised, acked_raised}
use Rattle.delta_exchange.proofs.versioned.Versioned.learn_message.Goals as goal

pub returns-clause-ok : goal.returns-clause-ok
unfolding value_of
returns-clause-ok g c =
    let m = message_value c.args.message.now in
    let known : version_of c.learn.new.self.known ≡ version_of c.args.self.now.known =
    ap version_of c.in_ok-changed.ensures.known ∙ (λ i j. c.in_ok-make_room.ensures.same j i) in
    let acked : version_of c.learn.new.self.acked ≡ version_of c.args.self.now.acked =
    ap version_of c.in_ok-changed.ensures.acked ∙ (λ i j. c.in_ok-make_room-2.ensures.same j i) in
    let issued = c.in_ok-changed.ensures.ok (operations_in m) c.requires.news in
    record {
      learned = record { state = issued.learned.state; version = issued.learned.version; last = issued.learned.last };
      known = (λ i j. c.raise_known.ensures j i) ∙ (λ i. known_raised m.from m.base m.upto (known i));
      acked = (λ i j. c.raise_acked.ensures j i) ∙ (λ i. acked_raised m.from m.ack (acked i));
    }
