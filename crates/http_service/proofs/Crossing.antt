-- A connection may go to another thread, where its handler may go to one and be lent to one.
use denote.RattleType.{RattleType}
use denote.Param.Send.{IsSend, IsSync, recorded_send, recorded_sync, sendable}
use Rattle.std.proofs.Crossing.{crosses}
use Rattle.tokio.proofs.net.stream.TcpStream.TheSendSync as socket
use Rattle.bytes.proofs.shared.Bytes.TheSendSync as bytes
use Rattle.http_body_util.proofs.full.Full.TheSendSync as full
use Rattle.hyper.proofs.rt.TokioTimer.TheSendSync as timer
use Rattle.hyper.proofs.server.conn.http1.Connection.TheSendSync as served
use Rattle.http_routes.specs.contracts.paths.Routes as Routes
use Rattle.http_routes.proofs.Crossing.{routes_send, routes_sync}
use Rattle.http_service.specs.contracts.exchange.ConnectionService as ConnectionService
use Rattle.http_service.specs.contracts.connection.ConnectionTask as ConnectionTask
use Rattle.http_service.specs.contracts.serving.HttpConnection as HttpConnection
use Rattle.http_service.proofs.exchange.Exchange.TheSendSync as exchange
use Rattle.http_service.proofs.permits.Permits.TheSendSync as permits
use Rattle.http_service.proofs.connection.ConnectionTask.TheSendSync as task

shared_routes_send : IsSend Routes.the_row
shared_routes_send = recorded_send (Routes.the_field).row _ _ (Routes.the_type).to_one routes_send

shared_routes_sync : IsSync Routes.the_row
shared_routes_sync = recorded_sync (Routes.the_field).row _ _ (Routes.the_type).to_one routes_sync

module _ (H R : RattleType) (send-H : IsSend H) (sync-H : IsSync H) (send-R : IsSend R) where
  service_send : IsSend (ConnectionService.the_row H R)
  service_send = search (crosses, sendable, shared_routes_send, shared_routes_sync, permits.the_send) depth 40

  connection_send : IsSend (HttpConnection.the_row H R)
  connection_send =
      search (crosses, sendable, service_send, exchange.the_send, socket.the_send, full.the_send, bytes.the_send, timer.the_send, served.the_field_send)
      depth 40

  -- and so may its task
  pub task_send : IsSend (ConnectionTask.the_row (HttpConnection.the_row H R))
  task_send = task.the_send (HttpConnection.the_row H R) connection_send
