use Rattle.std.proofs.Common.{◌<◌, ℕ}
use Rattle.cluster_model.specs.Worlds.{config_of}
use Rattle.audit.specs.Traces.{trace_of, audited}
use Rattle.node_core.specs.Resumed.{IsLegalAlone}
use Rattle.audit.specs.Tallies.{IsTallied}
use Rattle.audit.proofs.replay.least_wrong.Given as goal

abbrev pub invariant-loop-node : goal.invariant-loop-node
invariant-loop-node l = record {
  legal : (n : ℕ) → n < l.node → IsLegalAlone (config_of (audited l.nodes) n) (trace_of l.traces n);
  tallied : IsTallied l.tally l.nodes l.traces l.node;
}
