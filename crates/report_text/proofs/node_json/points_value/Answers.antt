use Rattle.std.proofs.Common.{[], ◌∷◌, ◌++◌, ap, refl, sym, ◌∙◌, map}
use Rattle.std.specs.Prelude.{option_map}
use Rattle.std.specs.List.{filter_map}
use Rattle.std.proofs.lemmas.List.{append-nil}
use Rattle.serde_json.specs.View.{view}
use Rattle.report_text.specs.Json.{list_data}
use Rattle.report_text.specs.Status.{budgets_data, keyed_budgets, point_budgets, points_data}
use Rattle.report_text.proofs.Walks.{data_of_name, told_before, none_told}
use Rattle.report_text.proofs.node_json.points_value.Goals as goal

pub loop-name-init : goal.loop-name-init
loop-name-init g c =
    let v = g.R.Replica.state c.args.replica.now in
    rw c.into_iter-name-iterator.ensures.into_iter_gives
    (λ i. map view (c.new-values.ensures.items i) ++ map budgets_data
    (filter_map (point_budgets v c.args.nodes) (c.points-name-items.ensures.names i)))

pub loop-name-preserved-in_ok-push_value : goal.loop-name-preserved-in_ok-push_value
loop-name-preserved-in_ok-push_value g c =
    let v = g.R.Replica.state c.args.replica.now in
    let before = rw c.in-Some.ensures.steps at c.loop-name.invariant in
    let row = ap (option_map (keyed_budgets v c.args.nodes c.in-Some.name.now)) (sym c.in-Some-key.ensures.value) in
    told_before _ _ _
    (c.in_ok-push_value.ensures ∙ ap (λ d. map view c.loop-name.values.items ++ d ∷ []) c.in_ok-point_value.ensures)
    before (data_of_name budgets_data (point_budgets v c.args.nodes) c.in-Some.name.now (map (λ e. e.0) c.next.new.self) _
    row)

pub loop-name-preserved : goal.loop-name-preserved
loop-name-preserved g c =
    let v = g.R.Replica.state c.args.replica.now in
    let before = rw c.in-Some.ensures.steps at c.loop-name.invariant in
    let row = ap (option_map (keyed_budgets v c.args.nodes c.in-Some.name.now)) (sym c.in_default.ensures.value) in
    told_before _ _ _ (none_told refl) before
    (data_of_name budgets_data (point_budgets v c.args.nodes) c.in-Some.name.now (map (λ e. e.0) c.next.new.self) _ row)

pub returns : goal.returns
unfolding points_data
returns g c =
    let before = rw c.in-None.ensures.steps.0 at c.loop-name.invariant in
    c.list_value.ensures ∙ ap list_data (sym (append-nil (map view c.loop-name.values.items)) ∙ before)
