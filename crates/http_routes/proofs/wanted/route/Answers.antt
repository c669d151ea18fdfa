use Rattle.std.proofs.Common.{inl, inr, subst, sym, ap, ◌∙◌}
use Rattle.http_routes.specs.Requests.{wanted_asked, wanted_ref_value}
use Rattle.http_routes.proofs.Spreads.{IsNoSpread, no_spread}
use Rattle.http_routes.proofs.wanted.route.Goals as goal

pub unreachable-requires : goal.unreachable-requires
unfolding IsNoSpread
unreachable-requires c =
    let asks = c.asked.ensures ∙ ap (λ a. wanted_asked a c.args.body.now) c.asked-asked.ensures in
    let none = subst IsNoSpread (sym asks) (no_spread c.args.method.now c.args.path.now c.args.body.now) in
    elim c.in-SetSpread.is [
      | inl (name, text, is) ↦ subst (λ r. IsNoSpread (wanted_ref_value r)) is none
      | inr (name, is) ↦ subst (λ r. IsNoSpread (wanted_ref_value r)) is none
    ]
