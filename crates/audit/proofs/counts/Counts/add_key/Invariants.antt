use Rattle.std.proofs.Common.{◌≡◌, List, Some}
use Rattle.actions.specs.Canonical.{canonical}
use Rattle.stamp_register.specs.Keys.{KeyValue, stamp_of}
use Rattle.operations.specs.Operations.{Operation}
use Rattle.audit.specs.Counts.{AreCountsOf}
use Rattle.audit.proofs.CountsKept.{AreCountsUpto}
use Rattle.audit.proofs.counts.Counts.add_key.Given as goal

abbrev pub invariant-loop-term : goal.invariant-loop-term
invariant-loop-term l =
    (key : KeyValue) → stamp_of key ≡ l.stamp → key.body ≡ Some (canonical l.actions) →
    (ops : List Operation) → AreCountsOf l.initial.self ops → AreCountsUpto l.self ops l.name key l.term
