use Rattle.std.proofs.Common.{◌≡◌, List, [], map, take}
use Rattle.operations.specs.Operations.{Operation}
use Rattle.replica_state.specs.Folds.{fold}
use Rattle.replica_state.specs.Unions.{with_names}
use Rattle.node_steps.specs.Replicas.{state_in}
use Rattle.node_steps.proofs.load.state_of_names.Given as goal

abbrev pub invariant-loop-name : goal.invariant-loop-name
invariant-loop-name l = record {
  known : (ops : List Operation) × (state_in l.named ≡ fold ops);
  names : (state_in l.named).names ≡ with_names (map (λ point. point.0) (take l.name-index l.points)) [];
}
