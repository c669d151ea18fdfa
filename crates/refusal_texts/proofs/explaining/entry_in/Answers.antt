use Rattle.std.proofs.Common.{rules, tests, lit<}
use Rattle.std.proofs.lemmas.Iterator.Search.{find_from_yields_List}
use Rattle.std.proofs.lemmas.Iterator.Splits.{YieldsList-from_str_split}
use Rattle.std.specs.Str.{bytes_eq}
use Rattle.refusal_texts.specs.Explanations.{code_of}
use Rattle.refusal_texts.proofs.explaining.entry_in.Goals as goal

pub returns : goal.returns
returns c =
    find_from_yields_List (λ entry. bytes_eq (code_of entry) c.args.code.now) _ _ c.find.result c.find.ensures.ran
    (YieldsList-from_str_split 124 c.args.table.now (lit< tt) (search rules) (search rules) (search rules))
    (λ x b q k. search (rules, tests))
