use Rattle.drills.proofs.Concatenated.{are_concatenated, begins_behind}
use Rattle.drills.proofs.Whole.{whole_parts_stay}
use Rattle.drills.proofs.laws.pieces_are_concatenated.Goals as goal

pub returns-clause-parts : goal.returns-clause-parts
returns-clause-parts c = are_concatenated

pub returns-clause-pieces : goal.returns-clause-pieces
returns-clause-pieces c = begins_behind

pub returns-clause-whole : goal.returns-clause-whole
returns-clause-whole c = whole_parts_stay
