use denote.Exit.{yes}
use denote.Param.{param}
use denote.Param.Send.{param_send, param_sync, arg_send, arg_sync}
use Rattle.http_serve.proofs.Crossing.{served_handler_send, served_handler_sync}
use Rattle.http_serve.proofs.serving.serve.Goals as goal

pub serve_all-requires-send-H : goal.serve_all-requires-send-H
serve_all-requires-send-H g c κs within = param_send 0 _
    (arg_send _ yes _ (served_handler_send (param 0 g.row.L) g.L.Label g.L.Ledger))

pub serve_all-requires-sync-H : goal.serve_all-requires-sync-H
serve_all-requires-sync-H g c κs within = param_sync 0 _
    (arg_sync _ yes _ (served_handler_sync (param 0 g.row.L) g.L.Label g.L.Ledger))
