use Rattle.std.proofs.Common.{◌≡◌, ◌++◌, map, take}
use Rattle.serde_json.specs.Data.{string}
use Rattle.serde_json.specs.View.{view}
use Rattle.drills.proofs.json_rows.push_texts.Given as goal

abbrev pub invariant-loop-text : goal.invariant-loop-text
invariant-loop-text l =
    map view l.row.items ≡ map view l.initial.row.items ++ map (λ text. string text.now) (take l.text-index l.texts)
