use Rattle.lattice_laws.proofs.map.MapOf.len.Goals as goal

pub returns-clause-value : goal.returns-clause-value
returns-clause-value g c = rw (← c.self.view_is) c.len.ensures.len
