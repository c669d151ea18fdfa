-- A handle and its parts own what a box at the same types owns.
use mir.Syntax.{Args, impl, tnil, dnil, a_type}
use mathlib.Core.List.{[], ◌∷◌}
use denote.RattleType.{RattleType}
use denote.Param.{layouts, param}
use denote.Param.Laws.{Laws}
use denote.Signature.{Slot, plain}
use Rattle.core.proofs.alloc.Calls.{Al}
use Rattle.std_alloc.proofs.BoxSteps.Form.{Bx}
use Rattle.std_heap.specs.contracts.Global as Heap
use Rattle.std_heap.specs.contracts.GlobalAllocator.TheImpl.{ghosts, dict}
use Rattle.std_heap.proofs.Global.TheLaws as heap_laws
use Rattle.node_for_c.specs.contracts.parts.Parts as Parts
use Rattle.node_for_c.specs.contracts.handle.Handle as Handle

abbrev pub heap : Al
heap =
    record { row = Heap.the_row; laws = heap_laws.the_row_laws; g = ghosts; d = dict; drops = impl [] tnil dnil }

abbrev pub boxed : (T : RattleType) → Laws T → Bx
boxed T L = record { row = T; laws = L; al = heap }

-- what a call passes for T
abbrev pub at : RattleType → Args
at T = layouts (a_type ∷ []) (T, tt)

abbrev pub FromParts : RattleType → Slot 1
FromParts T = plain (λ _. Parts.the_row (param 0 T) Heap.the_row ghosts)

-- a handle, as a row
abbrev pub held_by : RattleType → RattleType
held_by T = Handle.the_row (param 0 T)

abbrev pub FromHandle : RattleType → Slot 1
FromHandle T = plain (λ _. held_by T)
