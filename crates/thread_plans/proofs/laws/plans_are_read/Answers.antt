use Rattle.thread_plans.proofs.Grammars.{line_refused, one_plan, plan_read, read_plan, refused_line}
use Rattle.thread_plans.proofs.laws.plans_are_read.Goals as goal

pub returns-clause-one : goal.returns-clause-one
returns-clause-one c = one_plan

pub returns-clause-plan : goal.returns-clause-plan
returns-clause-plan c = λ text p. (plan_read text p, read_plan text p)

pub returns-clause-refused : goal.returns-clause-refused
returns-clause-refused c = λ text number. (line_refused text number, refused_line text number)
