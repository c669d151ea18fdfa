use Rattle.std.proofs.Common.{◌≡◌, ◌<◌, ◌≤◌, List, length, map, sym, subst, arith, below_more, IfSome, IfNone}
use Rattle.node_calls.specs.Told.{Told}
use Rattle.cluster_model.specs.Worlds.{config_of}
use Rattle.audit.specs.Traces.{audited, trace_of}
use Rattle.node_core.specs.Resumed.{IsLegalAlone, IsFirstWrong}
use Rattle.audit.proofs.Runs.{trace_read}
use Rattle.audit.proofs.Replayed.{legal_everywhere}
use Rattle.message_format.specs.Limits.{max_nodes}
use Rattle.node_calls.specs.Asks.{call_from}
use Rattle.node_steps.specs.Nodes.{start}
use Rattle.audit.specs.Tallies.{Notes, IsTallied}
use Rattle.audit.proofs.NotedAll.{node_tallied, one_short}
use Rattle.audit.proofs.replay.least_wrong.Goals as goal

pub returns-in-Some-clause-wrong : goal.returns-in-Some-clause-wrong
returns-in-Some-clause-wrong c =
    let below : c.loop-node.node < length c.args.traces.now = omega (arith, c.loop-node-test.true, c.requires.each) in
    let same = trace_read c.args.traces.now c.loop-node.node _ below c.index-traces-node.is in
    let found = subst (λ o. IfSome o (IsFirstWrong (config_of (audited c.args.nodes) c.loop-node.node)
    c.index-traces-node.result.calls)) c.in-Some.is c.in_ok-index.ensures.wrong in
    record {
      first = subst (λ (es : List Told). IsFirstWrong (config_of (audited c.args.nodes) c.loop-node.node) es
          c.in-Some.index) (sym same) found;
      least = c.loop-node.invariant.legal;
    }

pub loop-node-preserved : goal.loop-node-preserved
loop-node-preserved c =
    let below : c.loop-node.node < length c.args.traces.now = omega (arith, c.loop-node-test.true, c.requires.each) in
    let same = trace_read c.args.traces.now c.loop-node.node _ below c.index-traces-node.is in
    let legal = subst (λ o. IfNone o (IsLegalAlone (config_of (audited c.args.nodes) c.loop-node.node)
    c.index-traces-node.result.calls)) c.in_default.is c.in_ok-index.ensures.legal in
    let notes = subst (λ o. IfNone o (Notes c.loop-node.tally c.first_wrong.new.tally c.loop-node.node start
    (map (call_from c.args.nodes) c.index-traces-node.result.calls))) c.in_default.is c.in_ok-index.ensures.noted in
    let here : IsLegalAlone (config_of (audited c.args.nodes) c.loop-node.node)
    (trace_of c.args.traces.now c.loop-node.node) = subst
    (λ (es : List Told). IsLegalAlone (config_of (audited c.args.nodes) c.loop-node.node) es) (sym same) legal in
    record {
      legal = below_more _ _ c.loop-node.invariant.legal here;
      tallied = node_tallied c.loop-node.tally c.first_wrong.new.tally c.args.nodes c.args.traces.now c.loop-node.node
          (one_short c.args.nodes c.args.traces.now c.loop-node.node here) c.loop-node.invariant.tallied
          (subst (λ (es : List Told). Notes c.loop-node.tally c.first_wrong.new.tally c.loop-node.node start
          (map (call_from c.args.nodes) es)) (sym same) notes);
    }

pub returns-clause-legal : goal.returns-clause-legal
returns-clause-legal c = legal_everywhere c.args.nodes c.args.traces.now
    (λ n below. c.loop-node.invariant.legal n (omega (arith, below, c.requires.each, c.loop-node-test.false)))

pub loop-node-init : goal.loop-node-init
loop-node-init c = record {
  legal = λ n below. absurd (omega (arith, below));
  tallied = c.requires.none;
}

pub first_wrong-requires-clause-granted : goal.first_wrong-requires-clause-granted
first_wrong-requires-clause-granted c = λ stamp term.
    let few = c.loop-node.invariant.tallied.few_granted stamp term in
    let nodes : c.args.nodes ≤ max_nodes = c.requires.few in
    omega (arith, few, nodes, c.loop-node-test.true)

pub first_wrong-requires-clause-executed : goal.first_wrong-requires-clause-executed
first_wrong-requires-clause-executed c = λ stamp term.
    let few = c.loop-node.invariant.tallied.few_executed stamp term in
    let nodes : c.args.nodes ≤ max_nodes = c.requires.few in
    omega (arith, few, nodes, c.loop-node-test.true)

pub returns-clause-tallied : goal.returns-clause-tallied
returns-clause-tallied c =
    let all : c.loop-node.node ≡ c.args.nodes = omega (arith, c.loop-node-test.false, c.loop-node.auto) in
    subst (λ n. IsTallied c.loop-node.tally c.args.nodes c.args.traces.now n) all c.loop-node.invariant.tallied
