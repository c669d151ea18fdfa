use Rattle.std.proofs.Common.{arith, [], sym, subst, refl}
use Rattle.replica_state.specs.Folds.{fold}
use Rattle.delta_exchange.specs.Versions.{VersionedValue}
use Rattle.history.specs.Histories.{no_calls}
use Rattle.node_core.specs.KeptVersions.{IsInStepWith}
use Rattle.node_core.specs.Traces.{kept_of}
use Rattle.node_core.proofs.TraceLemmas.{holds_new}
use Rattle.node_core.proofs.Telling.{tell_new}
use Rattle.node_core.proofs.VersionsInStep.{new_with}
use Rattle.node_core.proofs.node.NodeCore.new.Goals as goal

pub invariant_of-result : goal.invariant_of-result
invariant_of-result c =
    rw c.new-2.ensures (subst (λ (v : VersionedValue). IsInStepWith (kept_of c.args.config no_calls) 0 v)
    (sym c.new.ensures)
    (new_with c.args.config (
      holds_new c.args.config (fold []) (omega arith) (omega arith) (omega arith) refl,
      tell_new c.args.config,
    )))
