use Rattle.std.proofs.Common.{rules}
use Rattle.thread_plans.proofs.Naming.{pushed}
use Rattle.thread_plans.proofs.bad_lines.say_count.Goals as goal

pub returns : goal.returns
returns c = pushed _ _ _ _ c.push_text.result c.push_text.ensures.ok (search rules)
