-- What a handle owns: the same as a box, or nothing.
use base.Fml.{Fml, ftrue}
use base.Stored.{Coded}
use Rattle.std.specs.Coded.{coded_option}
use denote.RattleType.{RattleType}
use denote.RawPtr.{Ptr}
use Rattle.std.specs.Prelude.{Option, Some, None}
use Rattle.std.specs.Box.Ownership.{box_owns}
use Rattle.std.specs.Global.{Global}
use Rattle.std_heap.specs.contracts.GlobalAllocator.TheImpl.{ghosts}

abbrev pub handle_owns : (R : RattleType) → Global → Ptr → Option R.Denot → Fml
handle_owns R alloc p None = ftrue
handle_owns R alloc p (Some x) = box_owns (ghosts.dealloc_token alloc) R p x

abbrev pub maybe_coded : (R : RattleType) → Coded (Option R.Denot)
maybe_coded R = coded_option R.coded
