use Rattle.std.proofs.Common.{[], ℕ, ◌+◌, List, ap, inr, sym, ◌∙◌}
use Rattle.replica_state.specs.States.{State, granted_in}
use Rattle.node_calls.specs.Asks.{Grant}
use Rattle.node_steps.specs.Refusals.{grant_refusal}
use Rattle.node_core.specs.Replicas.{value_in}
use Rattle.node_core.specs.Traces.{IsRefusalOf, Kept, kept_of, state_known}
use Rattle.node_core.proofs.NamedRefusals.{passed_on, trace_refused, name_refused, grant_later}
use Rattle.node_core.proofs.node.NodeCore.grant_checked.Goals as goal

pub returns-in_err-check_trace-clause-refused : goal.returns-in_err-check_trace-clause-refused
returns-in_err-check_trace-clause-refused c =
    passed_on (IsRefusalOf c.args.self.now (Grant c.args.name.now c.args.term c.args.amount) []) _ _
    c.from_residual.ensures.0 c.from_residual.ensures.1
    (trace_refused c.args.self.now _ _ c.in_err-check_trace.ensures.full)

pub returns-in_err-point-clause-refused : goal.returns-in_err-point-clause-refused
returns-in_err-point-clause-refused c =
    passed_on (IsRefusalOf c.args.self.now (Grant c.args.name.now c.args.term c.args.amount) []) _ _
    c.from_residual-in_err-point.ensures.0 c.from_residual-in_err-point.ensures.1
    (name_refused c.args.self.now c.args.name.now _ _ c.in_ok-check_trace.ensures.ok c.in_err-point.ensures.refused)

pub returns-in_err-total-clause-refused : goal.returns-in_err-total-clause-refused
returns-in_err-total-clause-refused c =
    let node = c.self.inside in
    let k = kept_of node.config node.history.calls in
    let room = rw (← c.self.view_is) at c.in_ok-check_trace.ensures.ok in
    let value = value_in node.replica in
    let found = rw c.state.ensures at c.in_err-total.ensures in
    passed_on (IsRefusalOf c.args.self.now (Grant c.args.name.now c.args.term c.args.amount) []) _ _
    c.from_residual-in_err-total.ensures.0 c.from_residual-in_err-total.ensures.1
    (inr (rw (← c.self.view_is)
    (grant_later k c.args.name.now room c.in_ok-point.ensures.ok.0 c.args.term c.args.amount
    ∙ ap (λ (v : State). grant_refusal node.config v c.args.name.now c.args.term c.args.amount)
    c.self.invariant.1.state_is
    ∙ ap (λ (n : List ℕ). grant_refusal node.config value.state n c.args.term c.args.amount)
    (sym c.in_ok-point.ensures.ok.1)
    ∙ found.refused)))

pub returns-clause-ok : goal.returns-clause-ok
returns-clause-ok c =
    let node = c.self.inside in
    let k = kept_of node.config node.history.calls in
    let room = rw (← c.self.view_is) at c.in_ok-check_trace.ensures.ok in
    let value = value_in node.replica in
    let found = rw c.state.ensures at c.in_ok-total.ensures in (
      rw (← c.self.view_is)
          (grant_later k c.args.name.now room c.in_ok-point.ensures.ok.0 c.args.term c.args.amount
          ∙ ap (λ (v : State). grant_refusal node.config v c.args.name.now c.args.term c.args.amount)
          c.self.invariant.1.state_is
          ∙ ap (λ (n : List ℕ). grant_refusal node.config value.state n c.args.term c.args.amount)
          (sym c.in_ok-point.ensures.ok.1)
          ∙ found.ok.0),
      c.in_ok-point.ensures.ok.1,
      found.ok.1 ∙ ap (λ (v : State). granted_in v c.in_ok-point.point c.args.term node.config.node + c.args.amount)
          (sym c.self.invariant.1.state_is) ∙ ap (λ (n : List ℕ). granted_in (state_known k) n c.args.term
          node.config.node + c.args.amount) c.in_ok-point.ensures.ok.1 ∙
          ap (λ (kept : Kept). granted_in (state_known kept) c.args.name.now c.args.term kept.config.node +
          c.args.amount) c.self.view_is,
    )
