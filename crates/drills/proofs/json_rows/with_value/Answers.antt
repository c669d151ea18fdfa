use Rattle.std.proofs.Common.{[], ◌∷◌, map, ap, ◌∙◌}
use Rattle.std.proofs.lemmas.List.{map-append}
use Rattle.serde_json.specs.Data.{array}
use Rattle.serde_json.specs.View.{items_of, view}
use Rattle.serde_json.proofs.Views.{view-Array}
use Rattle.drills.proofs.json_rows.with_value.Goals as goal

pub returns : goal.returns
returns c =
    view-Array c.push.new.self ∙ ap (λ ds. array (items_of ds))
    (ap (λ values. map view values) c.in_ok-push.ensures.items ∙ map-append view c.args.row.items (c.args.value ∷ []))
