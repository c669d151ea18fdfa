use Rattle.std.proofs.Common.{sym, ap, ◌∙◌}
use Rattle.std.specs.Option.{option_map_or}
use Rattle.serde_json.specs.Events.{items_len}
use Rattle.serde_json.proofs.Views.{items_len-items_view}
use Rattle.drills.proofs.rows.fields_in.Goals as goal

pub returns-in-Some : goal.returns-in-Some
returns-in-Some c =
    c.len.ensures ∙ c.in-Some.fields.now.ok.0 ∙ sym (items_len-items_view c.in-Some.fields.now.items)
    ∙ ap (λ o. option_map_or items_len o 0) c.in-Some.ensures
