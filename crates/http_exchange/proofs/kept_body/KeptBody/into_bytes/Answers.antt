use Rattle.std.proofs.Common.{◌≡◌, ◌∙◌, sym, ap, arith, rules, length}
use Rattle.std.proofs.lemmas.List.{take_at}
use Rattle.http_exchange.proofs.Pieces.{checked_in, kept_long}
use Rattle.http_exchange.proofs.kept_body.KeptBody.into_bytes.Goals as goal

pub returns-then-count-longest : goal.returns-then-count-longest
returns-then-count-longest c keeps came h fits =
    let body = c.args.self in
    kept_long keeps c.in-Text.longest body came c.stand_in.new.read _ c.is_text.result h c.in-Text.is fits (search rules)
    (c.is_text.ensures came (checked_in keeps c.in-Text.longest body came (sym h.keeps_so ∙ c.in-Text.is) h.checked))
    (search rules) (search rules) (take_at c.stand_in.new.read _ _ (search rules))
