use Rattle.thread_plans.proofs.NamedFirst.{nothing_is_said, refused_is_named}
use Rattle.thread_plans.proofs.laws.bad_lines_are_named.Goals as goal

pub returns-clause-nothing : goal.returns-clause-nothing
returns-clause-nothing c = nothing_is_said

pub returns-clause-first : goal.returns-clause-first
returns-clause-first c = refused_is_named
