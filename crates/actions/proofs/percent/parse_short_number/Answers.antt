use Rattle.std.proofs.Common.{sym, ◌∙◌, arith}
use Rattle.actions.proofs.NumberLemmas.{parsed_short, no_short, too_long, short_fits}
use Rattle.actions.proofs.percent.parse_short_number.Goals as goal

pub returns-then-text-most-clause-number : goal.returns-then-text-most-clause-number
returns-then-text-most-clause-number c = too_long c.args.most c.args.text.now (omega arith)

pub returns-then-not-is_all_digits-clause-number : goal.returns-then-not-is_all_digits-clause-number
returns-then-not-is_all_digits-clause-number c =
    no_short c.args.most c.args.text.now (sym c.is_all_digits.ensures ∙ c.if-not-is_all_digits.true)

pub returns-clause-number : goal.returns-clause-number
returns-clause-number c =
    c.ok.ensures.value
    ∙ parsed_short c.args.most c.args.text.now c.parse.result (omega arith) (omega arith)
    (sym c.is_all_digits.ensures ∙ c.if-not-is_all_digits.false) c.parse.ensures.value.0

pub returns-clause-short : goal.returns-clause-short
returns-clause-short c =
    short_fits c.args.most c.args.text.now c.ok.result
    (c.ok.ensures.value ∙ parsed_short c.args.most c.args.text.now c.parse.result (omega arith) (omega arith)
    (sym c.is_all_digits.ensures ∙ c.if-not-is_all_digits.false) c.parse.ensures.value.0)
