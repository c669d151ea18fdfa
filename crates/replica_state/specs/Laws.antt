-- What holds of every set of operations.
use Rattle.std.specs.Prelude.{◌≡◌, ℕ, ◌+◌, ◌<◌, List, ◌++◌, ◌↔◌, true, false, Some, pos, ◌+ℤ◌}
use Rattle.counters.specs.Sums.{node_numbers}
use Rattle.counters.specs.Budgets.{Budget, remaining_rights, total_granted, total_spent}
use Rattle.operations.specs.Operations.{Operation, IsIn, IsWellFormed}
use Rattle.replica_state.specs.States.{State, budget_of}
use Rattle.replica_state.specs.Folds.{fold, Learns, IsUnion}
use Rattle.replica_state.specs.Reached.{ComeToWith, ComeToBoth, IsReached, AreNamesHeld}
use Rattle.replica_state.specs.StateOrder.{IsBelow}
use Rattle.replica_state.specs.Knowledge.{Knows, KnowsAll, knows, changes}

-- the state of a set depends on no order and no repeats
abbrev pub SameOperationsSameState : Type 0
SameOperationsSameState = (a b : List Operation) → ((op : Operation) → IsIn op a ↔ IsIn op b) → fold a ≡ fold b

-- sets that know the same operations come to one state
abbrev pub SameKnownSameState : Type 0
SameKnownSameState = (a b : List Operation) → KnowsAll a b → KnowsAll b a → fold a ≡ fold b

-- the state of a union is the least state above both
abbrev pub UnionIsLeast : Type 0
UnionIsLeast = (a b : List Operation) →
    IsBelow (fold a) (fold (a ++ b)) × IsBelow (fold b) (fold (a ++ b)) ×
    ((c : List Operation) → IsBelow (fold a) (fold c) → IsBelow (fold b) (fold c) → IsBelow (fold (a ++ b)) (fold c))

-- the state of a set knows a well-formed operation exactly where the set does
abbrev pub StateKnowsAsSet : Type 0
StateKnowsAsSet = (ops : List Operation) (op : Operation) → IsWellFormed op →
    (knows (fold ops) op ≡ true) ↔ Knows ops op

-- operations leave the state as it was exactly where the state knows them all
abbrev pub ChangesIsChange : Type 0
ChangesIsChange = (a b : List Operation) → (changes (fold b) a ≡ false) ↔ (fold (a ++ b) ≡ fold b)

-- in each state, of each counted term, what was spent and what remains add up to the count and what
-- was granted
abbrev pub SpentAndRemainingAddUp : Type 0
SpentAndRemainingAddUp = (v : State) (name : List ℕ) (term : ℕ) (b : Budget) →
    budget_of v name term ≡ Some b → b.setter < node_numbers
    → remaining_rights b +ℤ pos (total_spent b) ≡ pos (b.count + total_granted b)

-- what a state learns that some well-formed operations come to is one operation more
abbrev pub LearnedIsOneMore : Type 0
LearnedIsOneMore = (v w : State) (op : Operation) →
    IsReached v → IsWellFormed op → Learns v w op → ∥ ComeToWith v w op ∥₁

-- the union of two such states is that of operations that come to them
abbrev pub UnionIsBoth : Type 0
UnionIsBoth = (v w both : State) → IsReached v → IsReached w → IsUnion v w both → ∥ ComeToBoth v w both ∥₁

-- the names of such a state are those that have a key or a hit
abbrev pub NamesAreHeld : Type 0
NamesAreHeld = (v : State) → IsReached v → AreNamesHeld v
