use Rattle.std.proofs.Common.{sym, arith}
use Rattle.std.proofs.lemmas.Bool.Decides.{nat_tests}
use Rattle.std.proofs.lemmas.List.Sums.{position_or_len_is}
use Rattle.scripts.specs.Checks.{is_line_end}
use Rattle.scripts.proofs.check.line_end.Goals as goal

pub returns-else-text-end-ne10-clause-value : goal.returns-else-text-end-ne10-clause-value
returns-else-text-end-ne10-clause-value c =
    sym (position_or_len_is is_line_end c.args.text.now c.loop-end.end 0 c.loop-end.invariant.within
    c.loop-end.invariant.before (λ more. grind (arith, nat_tests)))

pub returns-after-loop-end-clause-value : goal.returns-after-loop-end-clause-value
returns-after-loop-end-clause-value c =
    sym (position_or_len_is is_line_end c.args.text.now c.loop-end.end 0 c.loop-end.invariant.within
    c.loop-end.invariant.before (λ more. absurd (omega arith)))
