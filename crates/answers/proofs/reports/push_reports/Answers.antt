use Rattle.std.proofs.Common.{◌++◌, ap, sym, ◌∙◌, map, flat_map, refl}
use Rattle.std.specs.Prelude.{option_map}
use Rattle.std.specs.List.{filter_map}
use Rattle.std.proofs.lemmas.List.{append-nil}
use Rattle.report_text.specs.Report.{keyed_row, point_row}
use Rattle.report_text.proofs.Walks.{text_of_name, told_before, none_told}
use Rattle.answers.specs.Objects.{point_objects, report_objects}
use Rattle.answers.proofs.reports.push_reports.Goals as goal

pub loop-name-init : goal.loop-name-init
unfolding report_objects
loop-name-init g c =
    let v = g.R.Replica.state c.args.replica.now in
    rw c.into_iter-name-iterator.ensures.into_iter_gives
    (λ i. c.args.out.now.items ++ flat_map point_objects
    (filter_map (point_row v c.args.nodes) (c.points-name-items.ensures.names i)))

pub loop-name-preserved-in-Continue-1 : goal.loop-name-preserved-in-Continue-1
loop-name-preserved-in-Continue-1 g c =
    let v = g.R.Replica.state c.args.replica.now in
    let before = rw c.in-Some.ensures.steps at c.loop-name.invariant in
    let row = ap (option_map (keyed_row v c.args.nodes c.in-Some.name.now)) (sym c.in-Some-key.ensures.value) in
    told_before _ _ _ c.in_ok-push_point.ensures before
    (text_of_name point_objects (point_row v c.args.nodes) c.in-Some.name.now (map (λ e. e.0) c.next.new.self) _ row)

pub loop-name-preserved : goal.loop-name-preserved
loop-name-preserved g c =
    let v = g.R.Replica.state c.args.replica.now in
    let before = rw c.in-Some.ensures.steps at c.loop-name.invariant in
    let row = ap (option_map (keyed_row v c.args.nodes c.in-Some.name.now)) (sym c.in_default.ensures.value) in
    told_before _ _ _ (none_told refl) before
    (text_of_name point_objects (point_row v c.args.nodes) c.in-Some.name.now (map (λ e. e.0) c.next.new.self) _ row)

pub returns : goal.returns
returns g c =
    let before = rw c.in-None.ensures.steps.0 at c.loop-name.invariant in
    sym (append-nil c.loop-name.out.items) ∙ before
