-- What a handle owns may go to another thread, if what it leads to may.
use Rattle.std.specs.Prelude.{Option, Some, None}
use mir.Raw.{raw}
use base.Shift.{Keyless}
use denote.Memory.{lone}
use denote.RattleType.{RattleType}
use denote.RawPtr.{Ptr}
use denote.Param.Send.{IsSend}
use Rattle.std.specs.Global.{Global}
use Rattle.std.proofs.Crossing.{frees}
use Rattle.std_alloc.proofs.SendSync.{lies}
use Rattle.node_for_c.specs.Owned.{handle_owns}

pub owned_send : (R : RattleType) → IsSend R → (a : Global) (p : Ptr) (k : Option R.Denot) → Keyless (handle_owns R a p k)
owned_send R s a p None = tt
owned_send R s a p (Some x) = (lies R s p x, frees.frees a (raw (lone R.mir)) p)
