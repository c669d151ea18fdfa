use Rattle.std.proofs.Common.{arith, sym}
use Rattle.std.proofs.Output.{has_written_of_eq}
use Rattle.actions.proofs.PercentLemmas.{four_printed, three_printed, two_printed, one_printed}
use Rattle.actions.proofs.percent.PercentDisplay.fmt.Goals as goal

pub returns-then-fourth-ne0-clause-writes : goal.returns-then-fourth-ne0-clause-writes
returns-then-fourth-ne0-clause-writes g c =
    let printed = four_printed c.args.self.now.0 c.if-fourth-ne0.true in
    λ p ok. has_written_of_eq _ _ _ _ _ (sym printed) (c.write-then-fourth-ne0.ensures.writes p ok)

pub returns-then-third-ne0-clause-writes : goal.returns-then-third-ne0-clause-writes
returns-then-third-ne0-clause-writes g c =
    let printed = three_printed c.args.self.now.0 c.if-fourth-ne0.false c.if-third-ne0.true in
    λ p ok. has_written_of_eq _ _ _ _ _ (sym printed) (c.write-then-third-ne0.ensures.writes p ok)

pub returns-then-second-ne0-clause-writes : goal.returns-then-second-ne0-clause-writes
returns-then-second-ne0-clause-writes g c =
    let printed = two_printed c.args.self.now.0 c.if-fourth-ne0.false c.if-third-ne0.false c.if-second-ne0.true in
    λ p ok. has_written_of_eq _ _ _ _ _ (sym printed) (c.write-then-second-ne0.ensures.writes p ok)

pub returns-else-second-ne0-clause-writes : goal.returns-else-second-ne0-clause-writes
returns-else-second-ne0-clause-writes g c =
    let printed =
    one_printed c.args.self.now.0 c.if-fourth-ne0.false c.if-third-ne0.false c.if-second-ne0.false
    (λ none. c.if-part-eq0.false (omega (arith, none))) in
    λ p ok. has_written_of_eq _ _ _ _ _ (sym printed) (c.write-else-second-ne0.ensures.writes p ok)
