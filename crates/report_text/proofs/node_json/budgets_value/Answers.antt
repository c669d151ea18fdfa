use Rattle.std.proofs.Common.{[], ◌∷◌, ◌++◌, ap, sym, ◌∙◌, map, option_map}
use Rattle.serde_json.specs.View.{view}
use Rattle.stamp_register.specs.Keys.{key_value}
use Rattle.report_text.specs.Status.{budget_data, budget_row, counted_budget}
use Rattle.report_text.proofs.Walks.{data_of_number, told, none_told}
use Rattle.report_text.proofs.node_json.budgets_value.Goals as goal
use Rattle.report_text.proofs.node_json.budgets_value.Goals.{in-Some+in_ok-budget_value+in_ok-push_value, in_default}

pub loop-term-preserved : goal.loop-term-preserved
loop-term-preserved g c =
    let v = g.R.Replica.state c.args.replica.now in
    let counted = option_map (budget_row v c.args.nodes c.args.name.now c.loop-term.term) in
    let next = data_of_number budget_data (counted_budget v c.args.nodes c.args.name.now (key_value c.args.key.now))
    c.loop-term.term in
    elim c.match-count_of.branch [
      | in-Some+in_ok-budget_value+in_ok-push_value w ↦
          told _
          (ap (λ values. map view values.items) w.values-is
          ∙ w.in_ok-push_value.ensures
          ∙ ap (λ d. map view c.loop-term.values.items ++ d ∷ []) w.in_ok-budget_value.ensures)
          c.loop-term.invariant (next _ (ap counted (sym w.in-Some.ensures)))
      | in_default w ↦
          told _ (none_told (ap (λ values. map view values.items) w.values-is)) c.loop-term.invariant
          (next _ (ap counted (sym w.in_default.ensures)))
    ]
