use denote.Exit.{yes}
use denote.Param.{param}
use denote.Param.Send.{param_send, param_sync, arg_send, arg_sync}
use Rattle.http_serve.proofs.Crossing.{served_forgetting_send, served_forgetting_sync}
use Rattle.http_serve.proofs.serving.serve_forgetting.Goals as goal

pub serve_until_ended-requires-send-H : goal.serve_until_ended-requires-send-H
serve_until_ended-requires-send-H g c κs within = param_send 0 _
    (arg_send _ yes _ (served_forgetting_send (param 0 g.row.L) g.L.Label g.L.Ledger))

pub serve_until_ended-requires-sync-H : goal.serve_until_ended-requires-sync-H
serve_until_ended-requires-sync-H g c κs within = param_sync 0 _
    (arg_sync _ yes _ (served_forgetting_sync (param 0 g.row.L) g.L.Label g.L.Ledger))
