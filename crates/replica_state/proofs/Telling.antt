-- What differs from the state of nothing is all that a state tells.
use Rattle.std.proofs.Common.{List, [], ◌↔◌, refl, sym}
use Rattle.operations.specs.Operations.{Hits, Execs, Shifts, Operation, Set, Count}
use Rattle.replica_state.specs.Folds.{fold}
use Rattle.replica_state.specs.States.{State}
use Rattle.replica_state.specs.Deltas.{IsTold, IsAllTold, IsInDelta, IsDelta}

nothing_told : (op : Operation) → IsTold (fold []) op → ⊥
unfolding fold
nothing_told (Set name key) h = absurd (cc)
nothing_told (Count (Hits name node) number) h = h.1 (sym h.0)
nothing_told (Count (Execs name key term node) number) h = h.1 (sym h.0.1)
nothing_told (Count (Shifts name key term from to) number) h = h.1 (sym h.0.1)

told_differs : (v : State) (op : Operation) → (IsInDelta (fold []) v op ↔ IsTold v op)
told_differs v (Set name key) = (
  λ d. d.0,
  λ h. (
    h,
    λ same. nothing_told (Set name key)
        ((same (Set name key) refl).1 h),
  ),
)
told_differs v (Count cell number) = (λ d. d.0, λ h. (h, nothing_told (Count cell number)))

pub all_differs : (v : State) (ops : List Operation) → IsAllTold v ops → IsDelta (fold []) v ops
all_differs v ops all op = (λ m. (told_differs v op).1 ((all op).0 m), λ d. (all op).1 ((told_differs v op).0 d))
