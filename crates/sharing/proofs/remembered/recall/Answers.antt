use Rattle.std.proofs.Common.{rules, tests, ◌∙◌, ap, option_map}
use Rattle.std.specs.Str.{bytes_eq}
use Rattle.std.proofs.lemmas.Iterator.{YieldsList-from_slice}
use Rattle.std.proofs.lemmas.Iterator.Search.{find_from_yields_List}
use Rattle.sharing.specs.Remembered.{recalled}
use Rattle.sharing.proofs.Walks.{find_map, map_twice}
use Rattle.sharing.proofs.remembered.recall.Goals as goal

pub returns : goal.returns
returns c =
    let found = find_from_yields_List (λ kept. bytes_eq kept.name c.args.name.now) _ _ c.find.result c.find.ensures.ran
    (YieldsList-from_slice c.args.memory.now cc) (λ x b q k. search (rules, tests)) in
    map_twice recalled (λ x. x.now) c.find.result ∙ ap (option_map recalled) found
    ∙ find_map (λ remembered. bytes_eq remembered.name c.args.name.now) recalled c.args.memory.now
