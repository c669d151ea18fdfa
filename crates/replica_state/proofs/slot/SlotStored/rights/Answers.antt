use Rattle.std.proofs.Common.{◌∙◌}
use Rattle.std.proofs.lemmas.Int.{to_z-of_z}
use mir.Syntax.{w128}
use Rattle.replica_state.specs.Slots.{slot_held}
use Rattle.replica_state.proofs.slot.SlotStored.rights.Goals as goal

pub returns : goal.returns
unfolding slot_held
returns c = to_z-of_z w128 c.rights.result (record { sfits = c.rights.type_inv }) ∙ c.rights.ensures
