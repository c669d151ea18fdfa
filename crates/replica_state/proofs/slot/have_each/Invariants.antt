use Rattle.std.proofs.Common.{ℕ, ◌<◌, ◌<ℤ◌, get_or, pos}
use Rattle.replica_state.specs.Slots.{slot_rights}
use Rattle.replica_state.proofs.slot.have_each.Given as goal

abbrev pub invariant-loop-node : goal.invariant-loop-node
invariant-loop-node l = (k d : ℕ) → k < l.node-index → pos 0 <ℤ slot_rights l.slot l.term (get_or l.nodes k d)
