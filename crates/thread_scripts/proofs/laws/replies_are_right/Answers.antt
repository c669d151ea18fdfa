use Rattle.thread_scripts.proofs.LegalRuns.{replies_are_right}
use Rattle.thread_scripts.proofs.laws.replies_are_right.Goals as goal

pub returns : goal.returns
returns c = replies_are_right
