use Rattle.thread_warnings.proofs.FaultCodes.{each_coded, each_counted}
use Rattle.thread_warnings.proofs.laws.refused_calls_are_counted.Goals as goal

pub returns : goal.returns
returns c = λ refused. (each_counted refused, each_coded refused)
