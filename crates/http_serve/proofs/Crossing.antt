-- A served node may go to another thread, and may be lent to one.
use denote.RattleType.{RattleType}
use denote.Param.Send.{IsSend, IsSync, recorded_send, recorded_sync, sendable, struct_send, struct_sync}
use denote.Struct.Declared.{shape}
use Rattle.std.proofs.Crossing.{Arc-send, Arc-sync, crosses}
use Rattle.std.proofs.sync.Mutex.TheSendSync as mutex
use Rattle.std.specs.declared.sync.ledger.Ledger as ledger
use Rattle.node_registry.specs.declared.label.Label as label
use Rattle.node_registry.specs.contracts.registry.Registry as Registry
use Rattle.node_registry.specs.contracts.guarded.Seat as Seat
use Rattle.node_registry.proofs.registry.Registry.TheSendSync as registry
use Rattle.node_registry.proofs.guarded.Seat.TheSendSync as seat
use Rattle.http_peers.specs.contracts.shared.Peers as Peers
use Rattle.http_peers.proofs.shared.Peers.TheSendSync as peers
use Rattle.http_service.specs.contracts.ending.Ending as Ending
use Rattle.http_service.proofs.ending.Ending.TheSendSync as ending
use Rattle.http_serve.specs.contracts.handler.forgetting.ForgettingHandler as ForgettingHandler
use Rattle.http_serve.specs.contracts.handler.forgetting.ForgottenSeat as ForgottenSeat
use Rattle.http_serve.proofs.handler.forgetting.ForgottenSeat.TheSendSync as forgotten
use Rattle.http_serve.specs.contracts.handler.NodeHandler as NodeHandler
use Rattle.http_serve.specs.contracts.handler.NodeReader as NodeReader
use Rattle.http_serve.specs.contracts.handler.recording.RecordingHandler as RecordingHandler
use Rattle.http_serve.specs.contracts.served_node.ServedNode as ServedNode
use Rattle.part_keeper.specs.contracts.recorder.Recorder as Recorder
use Rattle.part_keeper.proofs.recorder.Recorder.TheSendSync as recorder

reader_fields_send : (L : RattleType) (g : label.Ghosts L.Denot) (g' : ledger.Ghosts L.Denot) →
    IsSend (NodeReader.the_field L g g').row
reader_fields_send L g g' =
    let shared = Arc-send (Registry.the_row L g g') (registry.the_send L g g') (registry.the_sync L g g') in
    struct_send (shape (NodeReader.the_type L g g')) (shared, tt)

reader_fields_sync : (L : RattleType) (g : label.Ghosts L.Denot) (g' : ledger.Ghosts L.Denot) →
    IsSync (NodeReader.the_field L g g').row
reader_fields_sync L g g' =
    let shared = Arc-sync (Registry.the_row L g g') (registry.the_send L g g') (registry.the_sync L g g') in
    struct_sync (shape (NodeReader.the_type L g g')) (shared, tt)

handler_fields_send : (L : RattleType) (g : label.Ghosts L.Denot) (g' : ledger.Ghosts L.Denot) →
    IsSend (NodeHandler.the_field L g g').row
handler_fields_send L g g' =
    let behind = mutex.the_send (Seat.the_row L g g') (seat.the_send L g g') in
    struct_send (shape (NodeHandler.the_type L g g')) (reader_fields_send L g g', (behind, tt))

handler_fields_sync : (L : RattleType) (g : label.Ghosts L.Denot) (g' : ledger.Ghosts L.Denot) →
    IsSync (NodeHandler.the_field L g g').row
handler_fields_sync L g g' =
    let behind = mutex.the_sync (Seat.the_row L g g') (seat.the_send L g g') in
    struct_sync (shape (NodeHandler.the_type L g g')) (reader_fields_sync L g g', (behind, tt))

pub handler_send : (L : RattleType) (g : label.Ghosts L.Denot) (g' : ledger.Ghosts L.Denot) →
    IsSend (NodeHandler.the_row L g g')
handler_send L g g' =
    recorded_send (NodeHandler.the_field L g g').row _ _ (NodeHandler.the_type L g g').to_one
    (handler_fields_send L g g')

pub handler_sync : (L : RattleType) (g : label.Ghosts L.Denot) (g' : ledger.Ghosts L.Denot) →
    IsSync (NodeHandler.the_row L g g')
handler_sync L g g' =
    recorded_sync (NodeHandler.the_field L g g').row _ _ (NodeHandler.the_type L g g').to_one
    (handler_fields_sync L g g')

forgetting_fields_send : (L : RattleType) (g : label.Ghosts L.Denot) (g' : ledger.Ghosts L.Denot) →
    IsSend (ForgettingHandler.the_field L g g').row
forgetting_fields_send L g g' =
    let behind = mutex.the_send (ForgottenSeat.the_row L g g') (forgotten.the_send L g g') in
    struct_send (shape (ForgettingHandler.the_type L g g')) (reader_fields_send L g g', (behind, tt))

forgetting_fields_sync : (L : RattleType) (g : label.Ghosts L.Denot) (g' : ledger.Ghosts L.Denot) →
    IsSync (ForgettingHandler.the_field L g g').row
forgetting_fields_sync L g g' =
    let behind = mutex.the_sync (ForgottenSeat.the_row L g g') (forgotten.the_send L g g') in
    struct_sync (shape (ForgettingHandler.the_type L g g')) (reader_fields_sync L g g', (behind, tt))

pub forgetting_send : (L : RattleType) (g : label.Ghosts L.Denot) (g' : ledger.Ghosts L.Denot) →
    IsSend (ForgettingHandler.the_row L g g')
forgetting_send L g g' =
    recorded_send (ForgettingHandler.the_field L g g').row _ _ (ForgettingHandler.the_type L g g').to_one
    (forgetting_fields_send L g g')

pub forgetting_sync : (L : RattleType) (g : label.Ghosts L.Denot) (g' : ledger.Ghosts L.Denot) →
    IsSync (ForgettingHandler.the_row L g g')
forgetting_sync L g g' =
    recorded_sync (ForgettingHandler.the_field L g g').row _ _ (ForgettingHandler.the_type L g g').to_one
    (forgetting_fields_sync L g g')

recording_fields_send : (L : RattleType) (g : label.Ghosts L.Denot) (g' : ledger.Ghosts L.Denot) →
    IsSend (RecordingHandler.the_field L g g').row
recording_fields_send L g g' =
    let shared = Arc-send (Recorder.the_row L g g') (recorder.the_send L g g') (recorder.the_sync L g g') in
    struct_send (shape (RecordingHandler.the_type L g g')) (reader_fields_send L g g', (shared, tt))

recording_fields_sync : (L : RattleType) (g : label.Ghosts L.Denot) (g' : ledger.Ghosts L.Denot) →
    IsSync (RecordingHandler.the_field L g g').row
recording_fields_sync L g g' =
    let shared = Arc-sync (Recorder.the_row L g g') (recorder.the_send L g g') (recorder.the_sync L g g') in
    struct_sync (shape (RecordingHandler.the_type L g g')) (reader_fields_sync L g g', (shared, tt))

pub recording_send : (L : RattleType) (g : label.Ghosts L.Denot) (g' : ledger.Ghosts L.Denot) →
    IsSend (RecordingHandler.the_row L g g')
recording_send L g g' =
    recorded_send (RecordingHandler.the_field L g g').row _ _ (RecordingHandler.the_type L g g').to_one
    (recording_fields_send L g g')

pub recording_sync : (L : RattleType) (g : label.Ghosts L.Denot) (g' : ledger.Ghosts L.Denot) →
    IsSync (RecordingHandler.the_row L g g')
recording_sync L g g' =
    recorded_sync (RecordingHandler.the_field L g g').row _ _ (RecordingHandler.the_type L g g').to_one
    (recording_fields_sync L g g')

-- each of them with what is heard of peers, and with the end of its service
pub served_send : (N : RattleType) → IsSend N → IsSend (ServedNode.the_row N)
served_send N send =
    let heard = Arc-send Peers.the_row peers.the_send peers.the_sync in
    let ends = Arc-send Ending.the_row ending.the_send ending.the_sync in
    recorded_send (ServedNode.the_field N).row _ _ (ServedNode.the_type N).to_one
    (struct_send (shape (ServedNode.the_type N)) (send, (heard, (search (crosses, sendable, ends) depth 30, tt))))

pub served_sync : (N : RattleType) → IsSync N → IsSync (ServedNode.the_row N)
served_sync N sync =
    let heard = Arc-sync Peers.the_row peers.the_send peers.the_sync in
    let ends = Arc-sync Ending.the_row ending.the_send ending.the_sync in
    recorded_sync (ServedNode.the_field N).row _ _ (ServedNode.the_type N).to_one
    (struct_sync (shape (ServedNode.the_type N)) (sync, (heard, (search (crosses, sendable, ends) depth 30, tt))))

pub served_handler_send : (L : RattleType) (g : label.Ghosts L.Denot) (g' : ledger.Ghosts L.Denot) →
    IsSend (ServedNode.the_row (NodeHandler.the_row L g g'))
served_handler_send L g g' = served_send (NodeHandler.the_row L g g') (handler_send L g g')

pub served_handler_sync : (L : RattleType) (g : label.Ghosts L.Denot) (g' : ledger.Ghosts L.Denot) →
    IsSync (ServedNode.the_row (NodeHandler.the_row L g g'))
served_handler_sync L g g' = served_sync (NodeHandler.the_row L g g') (handler_sync L g g')

pub served_forgetting_send : (L : RattleType) (g : label.Ghosts L.Denot) (g' : ledger.Ghosts L.Denot) →
    IsSend (ServedNode.the_row (ForgettingHandler.the_row L g g'))
served_forgetting_send L g g' = served_send (ForgettingHandler.the_row L g g') (forgetting_send L g g')

pub served_forgetting_sync : (L : RattleType) (g : label.Ghosts L.Denot) (g' : ledger.Ghosts L.Denot) →
    IsSync (ServedNode.the_row (ForgettingHandler.the_row L g g'))
served_forgetting_sync L g g' = served_sync (ForgettingHandler.the_row L g g') (forgetting_sync L g g')

pub served_recording_send : (L : RattleType) (g : label.Ghosts L.Denot) (g' : ledger.Ghosts L.Denot) →
    IsSend (ServedNode.the_row (RecordingHandler.the_row L g g'))
served_recording_send L g g' = served_send (RecordingHandler.the_row L g g') (recording_send L g g')

pub served_recording_sync : (L : RattleType) (g : label.Ghosts L.Denot) (g' : ledger.Ghosts L.Denot) →
    IsSync (ServedNode.the_row (RecordingHandler.the_row L g g'))
served_recording_sync L g g' = served_sync (RecordingHandler.the_row L g g') (recording_sync L g g')
