use Rattle.std.specs.Prelude.{option_map, Some}
use Rattle.std.proofs.Common.{◌∙◌, ap, rules}
use Rattle.node_calls.specs.Asks.{IsPassed, Pass}
use Rattle.node_core.specs.Lasts.{passed_at}
use Rattle.node_core.proofs.LastCalls.{last_after}
use Rattle.node_steps.specs.Passes.{pass_reply}
use Rattle.node_core.specs.Traces.{IsRefusalOf, state_known}
use Rattle.node_core.proofs.NamedRefusals.{passed_on, trace_refused, name_refused}
use Rattle.node_core.proofs.node.NodeCore.record_pass.Goals as goal

pub returns-clause-ok : goal.returns-clause-ok
returns-clause-ok c = search rules

pub returns-clause-last : goal.returns-clause-last
returns-clause-last c =
    let accepted = c.in_ok-pass.ensures.ok in
    let named = c.in_ok-point.ensures.ok in
    let given = c.in_ok-pass.ensures.words ∙ c.new-given.ensures in
    ap (λ o. option_map (λ p. IsPassed p) (passed_at o)) (last_after c.args.self.now c.pass.new.self
    (Pass c.in_ok-point.point) c.in_ok-pass.field-0.0.items c.in_ok-pass.ensures.within accepted.2)
    ∙ ap (λ words. Some (IsPassed (pass_reply c.args.self.now.config.node (state_known c.args.self.now)
    c.in_ok-point.point words))) given
    ∙ ap (λ name. Some (IsPassed (pass_reply c.args.self.now.config.node (state_known c.args.self.now) name
    c.args.words.now))) named.1

pub returns-in_err-check_trace-clause-refused : goal.returns-in_err-check_trace-clause-refused
returns-in_err-check_trace-clause-refused c =
    passed_on (IsRefusalOf c.args.self.now (Pass c.args.name.now) c.args.words.now) _ _ c.from_residual.ensures.0
    c.from_residual.ensures.1
    (trace_refused c.args.self.now _ _ c.in_err-check_trace.ensures.full)

pub returns-in_err-point-clause-refused : goal.returns-in_err-point-clause-refused
returns-in_err-point-clause-refused c =
    passed_on (IsRefusalOf c.args.self.now (Pass c.args.name.now) c.args.words.now) _ _
    c.from_residual-in_err-point.ensures.0 c.from_residual-in_err-point.ensures.1
    (name_refused c.args.self.now c.args.name.now _ _ c.in_ok-check_trace.ensures.ok c.in_err-point.ensures.refused)
