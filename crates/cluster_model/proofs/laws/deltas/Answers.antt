use Rattle.cluster_model.proofs.Closed.{delta_may_send, deltas_are_schedules}
use Rattle.cluster_model.proofs.Replays.{traces_are_legal}
use Rattle.cluster_model.proofs.laws.deltas.Goals as goal

pub returns-clause-any : goal.returns-clause-any
returns-clause-any c = delta_may_send

pub returns-clause-schedule : goal.returns-clause-schedule
returns-clause-schedule c = deltas_are_schedules

pub returns-clause-traces : goal.returns-clause-traces
returns-clause-traces c = traces_are_legal
