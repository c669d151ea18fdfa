use Rattle.std.proofs.Common.{◌≡◌, ◌++◌, drop}
use Rattle.std.specs.Option.{option_map}
use Rattle.serde_json.specs.View.{items_view}
use Rattle.drills.specs.Reading.{words_from}
use Rattle.drills.proofs.rows.words_in.Given as goal

-- the words so far, and those of the values that are left, are those of all
abbrev pub invariant-loop-item : goal.invariant-loop-item
invariant-loop-item l =
    option_map (λ more. l.words.items ++ more) (words_from (items_view (drop l.item-index l.item-items)))
    ≡ words_from (items_view l.item-items)
