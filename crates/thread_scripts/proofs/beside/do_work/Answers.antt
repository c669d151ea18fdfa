use Rattle.thread_scripts.proofs.Numbered.{IfOk-three}
use Rattle.thread_scripts.proofs.beside.do_work.Goals as goal

pub returns : goal.returns
returns g c =
    IfOk-three c.work.result _ _ _ c.work.ensures.len c.work.ensures.given c.work.ensures.calls
