use Rattle.std.proofs.Common.{◌≡◌, Some, refl, sym, ◌∙◌}
use Rattle.lattice_laws.specs.Lex.{LexOrder}
use Rattle.lattice_laws.proofs.LexJoins.{lex_less}
use Rattle.lattice_laws.proofs.lex.LexOfJoin.below.Goals as goal

pub returns-in-Less-clause-value : goal.returns-in-Less-clause-value
returns-in-Less-clause-value g c =
    let h = c.in-Some-Some in
    let self_is : c.args.self.now ≡ Some (h.key, h.value) = sym c.self.view_is ∙ h.is-0 in
    let other_is : c.args.other.now ≡ Some (h.other_key, h.other_value) = sym c.other.view_is ∙ h.is-1 in
    let below : LexOrder g.S.Ord.cmp g.J.Join.order c.args.self.now c.args.other.now =
    rw (self_is, other_is)
    (lex_less g.S.Ord.cmp g.J.Join.order h.key h.other_key h.value h.other_value (sym c.cmp.ensures ∙ c.in-Less.is)) in
    (λ t. below, λ b. refl)
