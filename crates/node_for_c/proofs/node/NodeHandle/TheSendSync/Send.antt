-- The handle of a node may go to another thread, since a registry may.
use denote.Struct.Struct.{exits_of}
use denote.Struct.Owning.{shape, fields, to}
use denote.Param.Send.{IsSend, AllSend, owning_send, struct_send, sendable}
use Rattle.std_alloc.proofs.SendSync.{quiet}
use Rattle.std_heap.proofs.Global.TheSendSync as heap
use Rattle.node_for_c.specs.contracts.registry.Registry as Registry
use Rattle.node_for_c.specs.contracts.node.NodeHandle.{the_row, the_type}
use Rattle.node_for_c.proofs.Crossing.{registry_send}
use Rattle.node_for_c.proofs.Owned.{owned_send}

pub send : IsSend the_row
send =
    let all : AllSend (fields the_type) = (search sendable, (heap.the_field_send, tt)) in
    owning_send the_type all (λ h. owned_send Registry.the_row registry_send h.alloc h.ptr h.kept)
    (λ k. quiet (to the_type) (exits_of k (fields the_type)) ((struct_send (shape the_type) all).leaving k))
