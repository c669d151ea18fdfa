use Rattle.node_calls.specs.Asks.{Pass}
use Rattle.node_steps.specs.Passes.{words_for}
use Rattle.node_core.specs.Traces.{IsRefusalOf, state_known}
use Rattle.node_core.proofs.NamedRefusals.{passed_on, trace_refused, name_refused}
use Rattle.node_core.proofs.node.NodeCore.pass_drawing.Goals as goal

pub returns-in_err-check_trace-clause-refused : goal.returns-in_err-check_trace-clause-refused
returns-in_err-check_trace-clause-refused g c =
    passed_on (IsRefusalOf c.args.self.now (Pass c.args.name.now)
    (g.S.WordSource.next_words c.args.source.now (words_for (state_known c.args.self.now) c.args.name.now))) _ _
    c.from_residual.ensures.0 c.from_residual.ensures.1
    (trace_refused c.args.self.now _ _ c.in_err-check_trace.ensures.full)

pub returns-in_err-point-clause-refused : goal.returns-in_err-point-clause-refused
returns-in_err-point-clause-refused g c =
    passed_on (IsRefusalOf c.args.self.now (Pass c.args.name.now)
    (g.S.WordSource.next_words c.args.source.now (words_for (state_known c.args.self.now) c.args.name.now))) _ _
    c.from_residual-in_err-point.ensures.0 c.from_residual-in_err-point.ensures.1
    (name_refused c.args.self.now c.args.name.now _ _ c.in_ok-check_trace.ensures.ok c.in_err-point.ensures.refused)
