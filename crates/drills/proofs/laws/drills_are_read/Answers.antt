use Rattle.drills.proofs.Grammars.{bad_line, drill_read, line_bad, one_drill, read_drill}
use Rattle.drills.proofs.laws.drills_are_read.Goals as goal

pub returns-clause-one : goal.returns-clause-one
returns-clause-one c = one_drill

pub returns-clause-drill : goal.returns-clause-drill
returns-clause-drill c = λ bytes d. (drill_read bytes d, read_drill bytes d)

pub returns-clause-bad : goal.returns-clause-bad
returns-clause-bad c = λ bytes number. (line_bad bytes number, bad_line bytes number)
