use denote.Exit.{yes}
use denote.Param.Send.{arg_send, param_send}
use Rattle.http_service.proofs.Crossing.{task_send}
use Rattle.http_service.proofs.serving.serve_all.Goals as goal

pub admit-requires-send-F-Task : goal.admit-requires-send-F-Task
admit-requires-send-F-Task g c κs within = param_send 2 _
    (arg_send _ yes _ (task_send _ _ c.type_bounds.send-H c.type_bounds.sync-H c.type_bounds.send-R))
