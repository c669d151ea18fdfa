use Rattle.std.proofs.Common.{refl, rules}
use Rattle.thread_scripts.proofs.Numbered.{OnOk-map}
use Rattle.thread_workers.proofs.Seats.{counted_after, given_after}
use Rattle.thread_scripts.proofs.StartLines.{done_of}
use Rattle.thread_scripts.proofs.starts.spread_rights.Goals as goal

pub returns-clause-counted : goal.returns-clause-counted
returns-clause-counted g c =
    OnOk-map c.put_behind.result _ _
    (λ longer. counted_after c.args.seat.now c.spread-report.new.seat c.args.receipts.now.items
    c.spread-report.result.receipts.items c.put_behind.new.all.items c.requires.counted
    c.spread-report.ensures.told.counted longer) c.put_behind.ensures

pub returns-clause-given : goal.returns-clause-given
returns-clause-given g c =
    let was = c.args.receipts.now in
    let more = c.spread-report.result.receipts in
    OnOk-map c.put_behind.result _ _
    (λ longer. given_after g.L.Label.config g.L.Label.seed c.args.seat.now was.items more.items
    c.put_behind.new.all.items c.requires.counted c.requires.given
    c.spread-report.ensures.told.given longer) c.put_behind.ensures

pub returns-clause-spread : goal.returns-clause-spread
returns-clause-spread g c =
    let report = c.spread-report.result in
    OnOk-map c.put_behind.result _ _
    (λ longer. (
      report.receipts.items,
      longer,
      (report, refl, done_of report.ended (search rules), c.spread-report.ensures.spread),
    )) c.put_behind.ensures
