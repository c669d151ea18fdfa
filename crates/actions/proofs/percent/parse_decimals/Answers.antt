use Rattle.std.proofs.Common.{sym}
use Rattle.actions.proofs.NumberLemmas.{decimals_is}
use Rattle.actions.proofs.percent.parse_decimals.Goals as goal

pub returns-clause-number : goal.returns-clause-number
returns-clause-number c =
    rw c.pow.ensures (sym (decimals_is c.args.text.now c.in_ok-number.number (sym c.in_ok-number.ensures.number)).0)

pub returns-clause-small : goal.returns-clause-small
returns-clause-small c =
    rw c.pow.ensures (decimals_is c.args.text.now c.in_ok-number.number (sym c.in_ok-number.ensures.number)).1
