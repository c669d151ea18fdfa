use Rattle.std.proofs.Common.{◌≡◌, ℕ, List, map, sym, ap, subst}
use Rattle.std.specs.List.{AllByRecursion}
use Rattle.op_set.specs.declared.point.Point.{Point}
use Rattle.op_set.specs.Counts.{held_of}
use Rattle.op_set.specs.SetOrder.{state_of}
use Rattle.op_set.specs.Shown.{shown}
use Rattle.replica_state.specs.Cells.{held_at}
use Rattle.op_set.proofs.Shown.{points_listed}
use Rattle.op_set.proofs.set.OpSetReplica.points.Goals as goal

pub returns-clause-names : goal.returns-clause-names
unfolding state_of shown
returns-clause-names c = ap (map (λ (e : List ℕ × Point). e.0)) c.iter.ensures.rest

pub returns-clause-held : goal.returns-clause-held
unfolding state_of
returns-clause-held c =
    subst (AllByRecursion (λ (e : List ℕ × Point). held_of e.1 ≡ held_at (shown c.args.self.now.points) e.0))
    (sym c.iter.ensures.rest)
    (points_listed c.args.self.now.points c.iter.ensures.ordered)
