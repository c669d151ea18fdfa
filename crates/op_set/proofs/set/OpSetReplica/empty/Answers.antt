use Rattle.std.proofs.Common.{ap, sym, subst, ◌∙◌, ℕ, List}
use Rattle.op_set.specs.declared.point.Point.{Point}
use Rattle.op_set.specs.Shown.{shown}
use Rattle.replica_state.specs.Reached.{IsReached}
use Rattle.op_set.specs.SetOrder.{state_of, nothing_reached}
use Rattle.op_set.proofs.Shown.{shown_none}
use Rattle.op_set.proofs.set.OpSetReplica.empty.Goals as goal

pub invariant_of-result : goal.invariant_of-result
invariant_of-result c = record {
  reached = subst (λ (points : List (List ℕ × Point)). IsReached (shown points))
      (sym c.new.ensures) nothing_reached;
}

pub returns : goal.returns
unfolding state_of
returns c = ap shown c.new.ensures ∙ shown_none
