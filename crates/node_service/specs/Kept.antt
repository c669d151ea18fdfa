-- Whether the part of a served node is kept.
use Rattle.std.specs.Prelude.{Bool, true, false}
use Rattle.node_registry.specs.declared.label.Label.{Ghosts}
use Rattle.node_service.specs.declared.calls.Calls.{Calls}
use Rattle.node_service.specs.declared.calls.Calls.TheVariants as calls

-- its calls are written down before anybody is told
abbrev pub is_kept : {L : Type 0} {g : Ghosts L} → Calls L g → Bool
is_kept (calls.Forgotten seat) = false
is_kept (calls.Kept recorder) = true
