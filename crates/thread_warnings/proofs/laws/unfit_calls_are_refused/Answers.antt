use Rattle.thread_warnings.proofs.UnfitCalls.{refused_so}
use Rattle.thread_warnings.proofs.laws.unfit_calls_are_refused.Goals as goal

pub returns : goal.returns
returns c = λ config entries n call words fault room is. refused_so config entries n words fault room call is
