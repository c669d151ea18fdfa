use Rattle.drills.proofs.Joins.{lists_are_traces}
use Rattle.drills.proofs.PartsRead.{part_read, read_part}
use Rattle.drills.proofs.laws.parts_are_read.Goals as goal

pub returns-clause-part : goal.returns-clause-part
returns-clause-part c = λ bytes p. (part_read bytes p, read_part bytes p)

pub returns-clause-lists : goal.returns-clause-lists
returns-clause-lists c = lists_are_traces
