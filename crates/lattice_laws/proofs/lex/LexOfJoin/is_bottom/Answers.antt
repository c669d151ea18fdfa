use Rattle.lattice_laws.proofs.LexJoins.{lex_bottom}
use Rattle.lattice_laws.proofs.lex.LexOfJoin.is_bottom.Goals as goal

pub returns-clause-value : goal.returns-clause-value
returns-clause-value g c = rw (← c.self.view_is) (lex_bottom g.S.Ord.cmp g.J.Join.order c.self.inside.held
    c.is_none.result c.is_none.ensures)
