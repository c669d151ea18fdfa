use Rattle.std.proofs.Common.{sym, ◌∙◌}
use Rattle.actions.proofs.NumberLemmas.{parsed_number, no_number}
use Rattle.actions.proofs.numbers.parse_number.Goals as goal

pub returns-then-not-is_all_digits : goal.returns-then-not-is_all_digits
returns-then-not-is_all_digits c = no_number c.args.text.now (sym c.is_all_digits.ensures ∙ c.if-not-is_all_digits.true)

pub returns : goal.returns
returns c =
    c.ok.ensures.value
    ∙ parsed_number c.args.text.now c.parse.result
    (sym c.is_all_digits.ensures ∙ c.if-not-is_all_digits.false) c.parse.ensures.value.0
