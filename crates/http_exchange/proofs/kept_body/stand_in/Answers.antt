use Rattle.std.proofs.Common.{◌≡◌, ◌∙◌, sym, ap, arith, rules}
use Rattle.std.proofs.lemmas.List.{get_or-set_same, length-set}
use Rattle.std.proofs.lemmas.Str.{is_utf8-from_IsUtf8}
use Rattle.http_exchange.proofs.Pieces.{no_text, filled_text}
use Rattle.http_exchange.proofs.kept_body.stand_in.Goals as goal

pub returns-in-Err-clause-text : goal.returns-in-Err-clause-text
returns-in-Err-clause-text c some =
    let up = c.in-Err.ensures.cases.1 in
    filled_text c.args.read.now c.fill.new.self c.valid_up_to-end.result _ (search (rules, up)) (c.fill.ensures.after (search rules)) (search rules)
    ∙ sym (search rules)

pub returns-in_default-clause-text : goal.returns-in_default-clause-text
returns-in_default-clause-text c some = is_utf8-from_IsUtf8 c.args.read.now (search rules) ∙ sym (search rules)

pub returns-in-Some-clause-text : goal.returns-in-Some-clause-text
returns-in-Some-clause-text c some =
    no_text _ (rw (length-set c.args.read.now 0 128) some) (get_or-set_same c.args.read.now 0 128 0 some) ∙ sym (search rules)
