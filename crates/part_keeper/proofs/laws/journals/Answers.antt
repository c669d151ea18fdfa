use Rattle.part_keeper.proofs.Wholes.{call_is_in_place, piece_follows, pieces_are_whole}
use Rattle.part_keeper.proofs.laws.journals.Goals as goal

pub returns-clause-whole : goal.returns-clause-whole
returns-clause-whole g c = pieces_are_whole g.W.Write.contents

pub returns-clause-next : goal.returns-clause-next
returns-clause-next g c = piece_follows

pub returns-clause-place : goal.returns-clause-place
returns-clause-place g c = call_is_in_place
