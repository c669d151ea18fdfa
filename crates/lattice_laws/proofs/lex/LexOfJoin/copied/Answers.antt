use Rattle.std.proofs.Common.{◌≡◌, Some, None, sym, ◌∙◌}
use Rattle.lattice_laws.specs.Lex.{lex_order}
use Rattle.lattice_laws.proofs.Joins.{copy_of_itself}
use Rattle.lattice_laws.proofs.LexJoins.{lex_copy}
use Rattle.lattice_laws.proofs.lex.LexOfJoin.copied.Goals as goal

pub returns-in-None : goal.returns-in-None
returns-in-None g c =
    let self_is : c.args.self.now ≡ None = sym c.self.view_is ∙ c.in-None.is in
    rw self_is (copy_of_itself (lex_order g.met.S.Ord.total g.met.J.Join.laws) None tt)

pub returns-in_ok-value-in-Some : goal.returns-in_ok-value-in-Some
returns-in_ok-value-in-Some g c =
    let self_is : c.args.self.now ≡ Some (c.in-Some.key, c.in-Some.value) = sym c.self.view_is ∙ c.in-Some.is in
    rw self_is (lex_copy g.met.S.Ord.total g.J.Join.admitted g.J.Join.order _ _ _ _ c.in_ok-key-in-Some.ensures
    c.in_ok-value-in-Some.ensures)
