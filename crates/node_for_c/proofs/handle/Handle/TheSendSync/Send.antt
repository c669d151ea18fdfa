-- A handle may go to another thread, where what it leads to may.
use denote.RattleType.{RattleType}
use denote.Struct.Struct.{exits_of}
use denote.Struct.Owning.{shape, fields, to}
use denote.Param.Send.{IsSend, AllSend, owning_send, struct_send, sendable}
use Rattle.std_alloc.proofs.SendSync.{quiet}
use Rattle.std_heap.proofs.Global.TheSendSync as heap
use Rattle.node_for_c.specs.contracts.handle.Handle.{the_row, the_type}
use Rattle.node_for_c.proofs.Owned.{owned_send}

pub send : (T : RattleType) → IsSend T → IsSend (the_row T)
send T s =
    let all : AllSend (fields (the_type T)) = (search sendable, (heap.the_field_send, tt)) in
    owning_send (the_type T) all (λ h. owned_send T s h.alloc h.ptr h.kept)
    (λ k. quiet (to (the_type T)) (exits_of k (fields (the_type T))) ((struct_send (shape (the_type T)) all).leaving k))
