use Rattle.std.proofs.Common.{rules}
use Rattle.decimals.proofs.TooLarge.{too_large, number_of-too_large}
use Rattle.decimals.proofs.number.Goals as goal

pub returns-in_default-clause-value : goal.returns-in_default-clause-value
returns-in_default-clause-value c =
    number_of-too_large c.args.most c.args.text.now (search rules)
    (too_large c.args.text.now c.in_default.field-0 c.in_default.ensures.value.0 (search rules) (search rules))
