use Rattle.std.proofs.Common.{ap, ◌∙◌}
use Rattle.replica_state.specs.States.{State}
use Rattle.op_set.specs.Shown.{shown}
use Rattle.op_set.specs.SetOrder.{state_of}
use Rattle.replica_state.specs.Unions.{union_of}
use Rattle.replica_state.proofs.Reaching.{united}
use Rattle.replica_state.proofs.SetJoins.{united_folds}
use Rattle.op_set.proofs.StateJoins.{union_joins}
use Rattle.op_set.proofs.set.OpSetJoin.joined.Goals as goal

pub invariant_of-result : goal.invariant_of-result
invariant_of-result c = record {
  reached = united (shown c.args.self.now.points) (shown c.args.other.now.points) (shown c.take_in.new.self)
      (united_folds (shown c.take_in.new.self) (shown c.args.self.now.points) (shown c.args.other.now.points)
      (c.in_ok-take_in.ensures ∙ ap (λ (v : State). union_of v (shown c.args.other.now.points)) c.in_ok-points.ensures))
      c.args.self.now.reached c.args.other.now.reached;
}

pub returns-clause-join : goal.returns-clause-join
unfolding state_of
returns-clause-join c = union_joins c.args.self.now c.args.other.now _
    (c.in_ok-take_in.ensures ∙ ap (λ (v : State). union_of v (shown c.args.other.now.points)) c.in_ok-points.ensures)

pub returns-clause-union : goal.returns-clause-union
unfolding state_of
returns-clause-union c = united_folds (shown c.take_in.new.self) (shown c.args.self.now.points)
    (shown c.args.other.now.points) (c.in_ok-take_in.ensures ∙
    ap (λ (v : State). union_of v (shown c.args.other.now.points)) c.in_ok-points.ensures)
