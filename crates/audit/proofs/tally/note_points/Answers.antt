use Rattle.std.proofs.Common.{◌≡◌, ◌-◌, length, sym, ◌∙◌, ap, subst, arith, Some, None}
use Rattle.std.proofs.lemmas.Result.{on_ok_weaker}
use Rattle.node_calls.specs.Asks.{asked_from}
use Rattle.packed_trace.specs.Packed.{seen_told}
use Rattle.node_steps.specs.Settings.{operations_issued, settings_of}
use Rattle.audit.specs.Counts.{AddsKeys}
use Rattle.audit.specs.Points.{Points, points_set}
use Rattle.audit.proofs.Noted.{found_stamp, is_last, points_added, none_added}
use Rattle.audit.proofs.tally.note_points.Goals as goal

pub returns-in_default : goal.returns-in_default
returns-in_default c = λ k is.
    let points = c.in_ok-points.ensures k.config.nodes (seen_told c.args.seen).reply
    ∙ ap (λ a. points_set (asked_from k.config.nodes a (seen_told c.args.seen).reply)) c.ask.ensures in
    let items = c.deref.ensures.value in
    let found = sym c.last_stamp.ensures ∙ c.in_default.is in
    none_added k c.args.core.now (seen_told c.args.seen) is c.args.counts.now
    (subst (λ (ps : Points). found_stamp k c.args.core.now (seen_told c.args.seen) is ps ≡ None) (items ∙ points) found)

pub add_points-requires : goal.add_points-requires
add_points-requires c =
    let k = c.requires.0 in
    let is = c.requires.1 in
    let points = c.in_ok-points.ensures k.config.nodes (seen_told c.args.seen).reply
    ∙ ap (λ a. points_set (asked_from k.config.nodes a (seen_told c.args.seen).reply)) c.ask.ensures in
    let same = c.deref.ensures.value ∙ points in
    let found = sym c.last_stamp.ensures ∙ c.in-Some.is in
    let last = is_last k c.args.core.now (seen_told c.args.seen) is c.in-Some.stamp
    (subst (λ (ps : Points). found_stamp k c.args.core.now (seen_told c.args.seen) is ps ≡ Some c.in-Some.stamp) same
    found) in
    let many = ap (λ (ps : Points). length ps) (c.deref-2.ensures.value ∙ points) in
    omega (arith, last.clock, many)

pub returns : goal.returns
returns c = on_ok_weaker c.add_points.result (λ added k is.
    let points = c.in_ok-points.ensures k.config.nodes (seen_told c.args.seen).reply
    ∙ ap (λ a. points_set (asked_from k.config.nodes a (seen_told c.args.seen).reply)) c.ask.ensures in
    let found = sym c.last_stamp.ensures ∙ c.in-Some.is in
    points_added k c.args.core.now (seen_told c.args.seen) is c.args.counts.now c.add_points.new.self c.in-Some.stamp
    (subst (λ (ps : Points). found_stamp k c.args.core.now (seen_told c.args.seen) is ps ≡ Some c.in-Some.stamp)
    (c.deref.ensures.value ∙ points) found)
    (subst (λ (ps : Points). AddsKeys c.args.counts.now c.add_points.new.self
    (operations_issued c.in-Some.stamp.node (c.in-Some.stamp.clock - length ps) (settings_of ps)))
    (c.deref-2.ensures.value ∙ points) added)) c.add_points.ensures
