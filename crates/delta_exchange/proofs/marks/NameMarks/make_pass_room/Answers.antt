use Rattle.std.proofs.Common.{◌∙◌}
use Rattle.delta_exchange.proofs.marks.NameMarks.make_pass_room.Goals as goal

pub returns-in_err-make_room-2-clause-cells : goal.returns-in_err-make_room-2-clause-cells
returns-in_err-make_room-2-clause-cells c = λ d. c.make_room-2.ensures.cells d ∙ c.make_room.ensures.cells d

pub returns-clause-cells : goal.returns-clause-cells
returns-clause-cells c = λ d. c.make_room-2.ensures.cells d ∙ c.make_room.ensures.cells d

pub returns-clause-hits : goal.returns-clause-hits
returns-clause-hits c = c.make_room-2.ensures.kept c.args.hits c.in_ok-make_room.ensures.room
