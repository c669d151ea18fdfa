use Rattle.std.proofs.Common.{◌≡◌, Some, sym, rules}
use Rattle.scripts.specs.Checks.{expected_in}
use Rattle.scripts.proofs.Checks.{expects_goes_on, expects_leaves, on_any}
use Rattle.scripts.proofs.check.check_line.Goals as goal

pub returns-in-Some-clause-world : goal.returns-in-Some-clause-world
returns-in-Some-clause-world c =
    let e : expected_in c.args.line.now ≡ Some c.in-Some.expected.now = search rules in
    on_any _ (sym (expects_leaves c.args.world.now c.args.line.now c.in-Some.expected.now e))

pub returns-in-Some-clause-history : goal.returns-in-Some-clause-history
returns-in-Some-clause-history c =
    let e : expected_in c.args.line.now ≡ Some c.in-Some.expected.now = search rules in
    on_any _ (expects_goes_on c.args.world.now c.args.line.now c.in-Some.expected.now e)
