use Rattle.lattice_laws.proofs.Takings.{may_join_all}
use Rattle.lattice_laws.proofs.map.MapOfJoin.join_in.Goals as goal

pub returns-clause-ok : goal.returns-clause-ok
returns-clause-ok g c =
    let m = g.J.Join in
    may_join_all g.met.K.Ord.total m.admitted m.order m.bottom g.met.J.Join.laws c.args.self.now c.args.other
    c.take_in.new.self c.take_in.result c.take_in.ensures.ok

pub returns-then-len-gt-MOST_IN_PLACE-clause-ok : goal.returns-then-len-gt-MOST_IN_PLACE-clause-ok
returns-then-len-gt-MOST_IN_PLACE-clause-ok g c = c.in_ok-self.ensures
