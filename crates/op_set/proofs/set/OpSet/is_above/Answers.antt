use Rattle.std.proofs.Common.{IsTrue, ◌↔◌, subst, sym}
use Rattle.replica_state.specs.Points.{Held}
use Rattle.op_set.specs.Counts.{held_of}
use Rattle.replica_state.specs.Unions.{IsHeldBelow}
use Rattle.op_set.specs.SetOrder.{state_of}
use Rattle.op_set.proofs.Shown.{held_seen, nothing_seen}
use Rattle.op_set.proofs.set.OpSet.is_above.Goals as goal

pub returns-in-Some : goal.returns-in-Some
unfolding state_of
returns-in-Some c = (subst (λ (h : Held). IsTrue c.below.result ↔ IsHeldBelow (held_of c.args.other.now) h)
    (held_seen c.args.self.now.points c.args.name.now c.in-Some.point.now (sym c.in-Some.ensures.value))
    c.below.ensures)

pub returns-in-None : goal.returns-in-None
unfolding state_of
returns-in-None c = (subst (λ (h : Held). IsTrue c.is_nothing.result ↔ IsHeldBelow (held_of c.args.other.now) h)
    (nothing_seen c.args.self.now.points c.args.name.now (sym c.in-None.ensures.value)) c.is_nothing.ensures)
