use Rattle.uses.proofs.drills_caller.drill_told.Goals as goal

pub returns-clause-bad : goal.returns-clause-bad
returns-clause-bad c line bad =
    let told = c.read_drill.ensures.bad_line line bad in
    rw (c.in-Ok.ensures.capacity, c.in-Ok.ensures.empty, c.in-Ok.ensures.inner, c.new.ensures.inner) at told
