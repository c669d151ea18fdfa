use Rattle.std.proofs.Common.{refl, subst}
use Rattle.delta_exchange.specs.Cells.{EntriesFit}
use Rattle.message_format.specs.Messages.{message_value}
use Rattle.delta_exchange.specs.Versions.{value_of}
use Rattle.delta_exchange.proofs.SinceLemmas.{HasChanges, tells_since, is_message_since}
use Rattle.delta_exchange.proofs.versioned.Versioned.changed_since.Goals as goal

pub returns : goal.returns
unfolding value_of
returns g c =
    let self = c.args.self.now in
    let held = c.in_ok-entries.ensures in
    let v = value_of g.R.Replica.state self in
    let m = message_value (record {
      from = c.args.from;
      to = c.args.to;
      base = c.args.base;
      upto = c.version.result;
      ack = c.known.result;
      entries = c.in_ok-entries.entries;
    }) in
    let has : HasChanges v self.marks m c.args.from c.args.to c.args.base = record {
      last = refl;
      upto = self.upto;
      ordered = record { names = held.names; cells = held.ordered };
      entries = held.entries;
      fit = subst EntriesFit held.entries held.fit;
      sender = refl;
      receiver = refl;
      since = refl;
      version = c.version.ensures;
      ack = c.known.ensures;
      low = (c.ranges.base.fits, c.version.type_inv, c.known.type_inv);
    } in
    record {
      told = tells_since v self.marks m c.args.from c.args.to c.args.base has;
      spelled = is_message_since v self.marks m c.args.from c.args.to c.args.base has;
    }
