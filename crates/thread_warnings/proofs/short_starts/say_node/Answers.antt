use Rattle.thread_plans.proofs.Naming.{pushed}
use Rattle.thread_warnings.proofs.short_starts.say_node.Goals as goal

pub returns : goal.returns
returns c = pushed _ _ _ _ c.push_text.result c.push_text.ensures.ok c.in_ok-format.ensures.ok
