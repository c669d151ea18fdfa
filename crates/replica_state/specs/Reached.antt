-- The states that well-formed operations come to: those that replicas stand for.
use Rattle.std.specs.Prelude.{◌≡◌, ℕ, ◌≤◌, List, ◌∷◌, ◌++◌, ◌⊎◌, ◌↔◌}
use Rattle.std.specs.List.{AllByRecursion}
use Rattle.std.specs.List.Sorted.{IsStrictlySortedBy}
use Rattle.std.specs.Option.{IsSome}
use Rattle.std.specs.Ordering.{nat_cmp}
use Rattle.std.specs.Cmp.Lexicographic.{slice_cmp}
use Rattle.operations.specs.Operations.{Operation, IsIn, IsWellFormed}
use Rattle.replica_state.specs.States.{State}
use Rattle.replica_state.specs.Folds.{fold}

-- well-formed operations that come to a state
pub record ComeTo (v : State) : Type 0 where
  pub ops : List Operation
  pub formed : AllByRecursion IsWellFormed ops
  pub state : v ≡ fold ops

-- some well-formed operations come to the state
abbrev pub IsReached : State → Type 0
IsReached v = ∥ ComeTo v ∥₁

-- well-formed operations that come to one state, and with an operation more to another
pub record ComeToWith (v w : State) (op : Operation) : Type 0 where
  pub ops : List Operation
  pub formed : AllByRecursion IsWellFormed (op ∷ ops)
  pub before : v ≡ fold ops
  pub after : w ≡ fold (op ∷ ops)

-- well-formed operations that come to one state, others that come to another, and both together to a third
pub record ComeToBoth (v w both : State) : Type 0 where
  pub ops : List Operation
  pub others : List Operation
  pub formed : AllByRecursion IsWellFormed (ops ++ others)
  pub first : v ≡ fold ops
  pub second : w ≡ fold others
  pub together : both ≡ fold (ops ++ others)

-- a name has a key or a hit
abbrev pub HasKeyOrHit : State → List ℕ → Type 0
HasKeyOrHit v name = ∥ IsSome (v.key name) ⊎ ((node : ℕ) × (1 ≤ v.hits name node)) ∥₁

-- the names of a state stand in byte order, each once, and are those that have a key or a hit
pub record AreNamesHeld (v : State) : Type 0 where
  pub ascending : IsStrictlySortedBy (slice_cmp nat_cmp) v.names
  pub held : (name : List ℕ) → ∥ IsIn name v.names ∥₁ ↔ HasKeyOrHit v name
