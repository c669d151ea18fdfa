-- A registry may go to another thread: each of its fields may.
use denote.Param.Send.{IsSend, sendable, recorded_send, struct_send}
use denote.Struct.Declared.{shape}
use Rattle.std.proofs.Crossing.{crosses}
use Rattle.http_routes.proofs.Crossing.{routes_send}
use Rattle.http_routes.proofs.room.KeptRoom.TheSendSync as room
use Rattle.node_calls.proofs.fault.NodeFault.TheSendSync as fault
use Rattle.node_steps.proofs.generator.Generator.TheSendSync as generator
use Rattle.node_core.proofs.node.NodeCore.TheSendSync as core
use Rattle.sharing.proofs.memory.Memory.TheSendSync as memory
use Rattle.peers.proofs.book.PeerBook.TheSendSync as book
use Rattle.node_for_c.proofs.points.Points.TheSendSync as points
use Rattle.node_for_c.proofs.registry.Said.TheSendSync as said
use Rattle.node_for_c.specs.contracts.registry.Registry as Registry

pub registry_send : IsSend Registry.the_row
registry_send =
    recorded_send (Registry.the_field).row _ _ (Registry.the_type).to_one
    (struct_send (shape Registry.the_type) (
      core.the_send,
      (
        generator.the_send,
        (
          routes_send,
          (
            room.the_send,
            (
              said.the_field_send,
              (search (crosses, sendable) depth 30, (points.the_send, (search (crosses, sendable, fault.the_send) depth 30, (memory.the_send, (book.the_field_send, tt))))),
            ),
          ),
        ),
      ),
    ))
