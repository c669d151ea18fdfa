use Rattle.std.proofs.Common.{[], ap, refl, rules, sym}
use Rattle.std.proofs.lemmas.List.{append-nil}
use Rattle.thread_plans.specs.Lines.{start_value}
use Rattle.thread_plans.specs.Plans.{start_line_value}
use Rattle.thread_scripts.specs.Calls.{AreOfLine}
use Rattle.thread_scripts.proofs.StartLines.{adds_none, other_line, spread_line}
use Rattle.thread_scripts.proofs.starts.do_start.Goals as goal

pub returns-then-line-node-clause-done : goal.returns-then-line-node-clause-done
returns-then-line-node-clause-done g c =
    let line = start_line_value c.args.line.now in
    adds_none (AreOfLine g.L.Label.config g.L.Label.seed line) c.args.receipts.now.items c.args.refusals.now
    (other_line g.L.Label.config g.L.Label.seed line (search rules))

pub returns-in_ok-spread_rights-in-Spread-clause-done : goal.returns-in_ok-spread_rights-in-Spread-clause-done
returns-in_ok-spread_rights-in-Spread-clause-done g c =
    let spread = c.in_ok-spread_rights-in-Spread.ensures.spread in (
      spread.0,
      [],
      spread.1,
      sym (append-nil c.args.refusals.now),
      refl,
      spread_line g.L.Label.config g.L.Label.seed (start_line_value c.args.line.now) c.in-Spread.name.now spread.0
          (search rules) (ap start_value c.in-Spread.is) spread.2,
    )
