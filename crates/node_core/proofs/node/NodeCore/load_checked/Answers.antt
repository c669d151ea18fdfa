use Rattle.std.proofs.Common.{◌≡◌, ℕ, List, [], inr, arith, ap, sym, ◌∙◌, subst, length}
use Rattle.actions.specs.Value.{TermValue}
use Rattle.replica_state.specs.Unions.{with_names}
use Rattle.node_steps.specs.Replicas.{state_in}
use Rattle.node_core.specs.Replicas.{value_in}
use Rattle.node_steps.specs.Outcomes.{AreTellable}
use Rattle.node_steps.specs.Settings.{operations_issued, points_read, settings_of}
use Rattle.node_calls.specs.Asks.{Load}
use Rattle.node_core.specs.Traces.{IsRefusalOf, kept_of, last_clock}
use Rattle.node_core.proofs.NamedRefusals.{load_text, passed_on, trace_refused}
use Rattle.node_steps.proofs.SettingNames.{settings_told}
use Rattle.node_core.proofs.LoadRefusals.{Loads, too_many_names, clock_full, no_refusal, have_places}
use Rattle.node_core.proofs.node.NodeCore.load_checked.Goals as goal
use Rattle.node_core.proofs.node.NodeCore.load_checked.Goals.{After-names_together}

-- what was found when the names are counted
loads : (c : After-names_together) → let node = c.self.inside in
    Loads (kept_of node.config node.history.calls) node.clock (value_in node.replica).version
    (value_in node.replica).state (state_in c.in_ok-named.named).names c.args.text.now c.in_ok-points.points.items
loads c = record {
  step = c.self.invariant.0;
  room = rw (← c.self.view_is) at c.in_ok-check_trace.ensures.ok;
  read = c.in_ok-points.ensures.ok;
  named_is = rw c.deref.ensures.value at c.in_ok-named.ensures;
}

counted : (c : After-names_together) → c.names_together.result ≡ length
    (with_names (state_in c.in_ok-named.named).names (value_in c.self.inside.replica).state.names)
counted c = rw c.state.ensures at c.names_together.ensures

pub returns-then-names_together-gt-MAX_NAMES-clause-refused :
    goal.returns-then-names_together-gt-MAX_NAMES-clause-refused
returns-then-names_together-gt-MAX_NAMES-clause-refused c =
    let found = (goal.at.returns-then-names_together-gt-MAX_NAMES-clause-refused c).After-names_together in
    inr (rw (← c.self.view_is) (too_many_names (loads found) (counted found) c.if-names_together-gt-MAX_NAMES.true))

pub returns-then-self-from-clause-refused : goal.returns-then-self-from-clause-refused
returns-then-self-from-clause-refused c =
    let found = (goal.at.returns-then-self-from-clause-refused c).After-names_together in
    let some = c.len-entries.ensures in
    let points = c.in_ok-points.points.ok.0 in
    let same = c.from.ensures in
    let high = c.if-self-from.true in
    inr (rw (← c.self.view_is) (clock_full (loads found) (counted found) c.if-names_together-gt-MAX_NAMES.false
    (omega (arith, some, points, same, high))))

pub returns-clause-ok : goal.returns-clause-ok
returns-clause-ok c =
    let found = (goal.at.returns-clause-ok c).After-names_together in
    let some = c.len-entries.ensures in
    let points = c.in_ok-points.points.ok.0 in
    let same = c.from.ensures in
    let fits = c.if-self-from.false in
    let few = c.in_ok-points.ensures.few in (
      rw (← c.self.view_is) (no_refusal (loads found) (counted found) c.if-names_together-gt-MAX_NAMES.false
          (omega (arith, some, points, same, fits, few))),
      some ∙ points ∙ sym (ap (λ r. length (points_read r)) c.in_ok-points.ensures.ok),
    )

pub returns-clause-ops : goal.returns-clause-ops
returns-clause-ops c =
    let node = c.self.inside in
    let points = c.in_ok-points.points.items in
    rw (← c.self.view_is)
    (c.in_ok-ops.ensures.value
    ∙ ap (λ (at : ℕ). operations_issued node.config.node at (settings_of points)) (sym c.self.invariant.0.0.clock_is)
    ∙ ap (λ r. operations_issued node.config.node (last_clock (kept_of node.config node.history.calls))
    (settings_of (points_read r))) (sym c.in_ok-points.ensures.ok))

pub returns-clause-tellable : goal.returns-clause-tellable
returns-clause-tellable c =
    subst (λ (points : List (List ℕ × List TermValue)). AreTellable (settings_of points))
    (sym (ap points_read c.in_ok-points.ensures.ok))
    (settings_told c.in_ok-points.points.items c.in_ok-points.ensures.named c.in_ok-ops.ensures.bodies)

pub returns-clause-few : goal.returns-clause-few
returns-clause-few c =
    let found = (goal.at.returns-clause-few c).After-names_together in
    rw (← c.self.view_is) (have_places (loads found) (counted found) c.if-names_together-gt-MAX_NAMES.false)

pub returns-in_err-check_trace-clause-refused : goal.returns-in_err-check_trace-clause-refused
returns-in_err-check_trace-clause-refused c =
    passed_on (IsRefusalOf c.args.self.now (Load c.args.text.now) []) _ _ c.from_residual.ensures.0
    c.from_residual.ensures.1
    (trace_refused c.args.self.now _ _ c.in_err-check_trace.ensures.full)

pub returns-in_err-points-clause-refused : goal.returns-in_err-points-clause-refused
returns-in_err-points-clause-refused c =
    passed_on (IsRefusalOf c.args.self.now (Load c.args.text.now) []) _ _ c.from_residual-in_err-points.ensures.0
    c.from_residual-in_err-points.ensures.1
    (load_text c.args.self.now c.args.text.now _ c.in_ok-check_trace.ensures.ok c.in_err-points.ensures.refused)
