-- Plain replicas are joined and copied as their states are.
use Rattle.std.proofs.Common.{◌≡◌, sym, subst}
use Rattle.lattice_laws.specs.Order.{IsCopy, IsJoin}
use Rattle.replica_state.specs.States.{State}
use Rattle.replica_state.specs.StateOrder.{IsBelow, below-refl}
use Rattle.replica_state.specs.Unions.{union_of}
use Rattle.replica_state.proofs.StateOrders.{union_above, union_under}
use Rattle.op_set.specs.declared.set.OpSet.{OpSet}
use Rattle.op_set.specs.SetOrder.{state_of, IsSet, IsSetBelow}

-- a set whose state is the union is the least one above both
pub union_joins : (x y both : OpSet) → state_of both ≡ union_of (state_of x) (state_of y) →
    IsJoin IsSet IsSetBelow x y both
union_joins x y both e = record {
  admitted_first = tt;
  admitted_second = tt;
  admitted_join = tt;
  above_first = subst (IsBelow (state_of x)) (sym e) (union_above (state_of x) (state_of y)).0;
  above_second = subst (IsBelow (state_of y)) (sym e) (union_above (state_of x) (state_of y)).1;
  least = λ u a h k. subst (λ (s : State). IsBelow s (state_of u)) (sym e)
      (union_under (state_of x) (state_of y) (state_of u) h k);
}

-- a set with the same state is a copy
pub same_copies : (x copy : OpSet) → state_of copy ≡ state_of x → IsCopy IsSet IsSetBelow x copy
same_copies x copy e = record {
  admitted_source = tt;
  admitted_copy = tt;
  above = subst (IsBelow (state_of x)) (sym e) (below-refl (state_of x));
  below = subst (λ (s : State). IsBelow s (state_of x)) (sym e) (below-refl (state_of x));
}
