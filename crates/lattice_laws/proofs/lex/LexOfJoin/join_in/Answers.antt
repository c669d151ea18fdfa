use Rattle.std.proofs.Common.{◌≡◌, Some, sym, ◌∙◌}
use Rattle.lattice_laws.specs.Lex.{HoldsOnly, LexOrder, lex_order}
use Rattle.lattice_laws.proofs.Joins.{copy_joins_first, copy_of_itself}
use Rattle.lattice_laws.proofs.LexJoins.{lex_greater, may_lex_join}
use Rattle.lattice_laws.proofs.lex.LexOfJoin.join_in.Goals as goal

-- this key is greater
pub returns-in-Greater-clause-ok : goal.returns-in-Greater-clause-ok
returns-in-Greater-clause-ok g c =
    let h = c.in-Some-Some in
    let laws = lex_order g.met.S.Ord.total g.met.J.Join.laws in
    let self_is : c.args.self.now ≡ Some (h.key, h.value) = sym c.self.view_is ∙ h.is-0 in
    let other_is : c.args.other ≡ Some (h.other_key, h.other_value) = sym c.other.view_is ∙ h.is-1 in
    let self_admitted : HoldsOnly g.J.Join.admitted c.args.self.now = rw (← c.self.view_is) c.self.invariant in
    let other_admitted : HoldsOnly g.J.Join.admitted c.args.other = rw (← c.other.view_is) c.other.invariant in
    let below : LexOrder g.S.Ord.cmp g.J.Join.order c.args.other c.args.self.now =
    rw (self_is, other_is)
    (lex_greater g.met.S.Ord.total g.J.Join.admitted g.J.Join.order h.key h.other_key h.value h.other_value
    (sym c.cmp.ensures ∙ c.in-Greater.is)) in
    rw (← self_is) (copy_joins_first laws _ _ _ other_admitted below (copy_of_itself laws _ self_admitted))

-- the keys are equal, and the values join
pub returns-in-Equal-clause-ok : goal.returns-in-Equal-clause-ok
returns-in-Equal-clause-ok g c =
    let h = c.in-Some-Some in
    let self_is : c.args.self.now ≡ Some (h.key, h.value) = sym c.self.view_is ∙ h.is-0 in
    let other_is : c.args.other ≡ Some (h.other_key, h.other_value) = sym c.other.view_is ∙ h.is-1 in
    rw (self_is, other_is)
    (may_lex_join g.met.S.Ord.total g.J.Join.admitted g.J.Join.order _ _ _ _ _ c.join_in.result
    (sym c.cmp.ensures ∙ c.in-Equal.is) c.join_in.ensures.ok)
