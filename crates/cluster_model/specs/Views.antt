-- What a state holds of what one node wrote.
use Rattle.std.specs.Prelude.{◌≡◌, ℕ, ◌≤◌}
use Rattle.operations.specs.Operations.{Operation, writer_of}
use Rattle.replica_state.specs.States.{State}
use Rattle.replica_state.specs.StateOrder.{IsBelow}
use Rattle.replica_state.specs.Deltas.{IsTold}
use Rattle.cluster_model.specs.Worlds.{World}

-- the first state is above the second, and tells nothing that node j wrote but what the second tells
pub record IsAsOf (v w : State) (j : ℕ) : Type 0 where
  pub above : IsBelow w v
  pub no_more : (op : Operation) → writer_of op ≡ j → IsTold v op → IsTold w op

-- of what node j wrote the state holds all that node j held at one of its versions, and nothing later
pub record SeesWhole (w : World) (v : State) (j : ℕ) : Type 0 where
  pub version : ℕ
  pub reached : version ≤ (w.node j).marks.version
  pub as_of : IsAsOf v ((w.node j).past version) j
