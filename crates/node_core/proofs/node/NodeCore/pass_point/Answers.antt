use Rattle.std.specs.Prelude.{option_map}
use Rattle.std.proofs.Common.{ap}
use Rattle.node_calls.specs.Asks.{IsPassed, Pass}
use Rattle.node_core.specs.Lasts.{passed_at}
use Rattle.node_steps.specs.Passes.{words_for}
use Rattle.node_core.specs.Traces.{IsRefusalOf, state_known}
use Rattle.node_core.proofs.LastCalls.{last_after}
use Rattle.node_core.proofs.NamedRefusals.{passed_on, trace_refused}
use Rattle.node_core.proofs.node.NodeCore.pass_point.Goals as goal

pub returns-in_err-check_trace-clause-refused : goal.returns-in_err-check_trace-clause-refused
returns-in_err-check_trace-clause-refused g c =
    passed_on (IsRefusalOf c.args.self.now (Pass c.args.point.now)
    (g.S.WordSource.next_words c.args.source.now (words_for (state_known c.args.self.now) c.args.point.now))) _ _
    c.from_residual.ensures.0 c.from_residual.ensures.1
    (trace_refused c.args.self.now _ _ c.in_err-check_trace.ensures.full)

pub returns-clause-last : goal.returns-clause-last
returns-clause-last g c =
    ap (λ o. option_map (λ p. IsPassed p) (passed_at o)) (last_after c.args.self.now c.pass.new.self
    (Pass c.args.point.now) c.in_ok-words.words.items c.in_ok-words.ensures.within c.in_ok-words.ensures.ok.2)
