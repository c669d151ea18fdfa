use Rattle.std.proofs.Common.{ℕ, ◌+◌, ◌-◌, ◌^◌, min, ap₂, sym, ◌∙◌}
use Rattle.sharing.proofs.Walks.{fold_of_next}
use Rattle.node_sharing.specs.Spread.{own_rights}
use Rattle.node_sharing.proofs.spreading.rights_kept.Goals as goal

pub loop-term-preserved : goal.loop-term-preserved
loop-term-preserved c =
    let next : ℕ → ℕ → ℕ = λ all term. min (all + own_rights c.args.node.now c.args.name.now term) (2 ^ 64 - 1) in
    c.saturating_add-all.ensures ∙ ap₂ (λ all own. min (all + own) (2 ^ 64 - 1)) c.loop-term.invariant c.own_rights.ensures
    ∙ sym (fold_of_next next 0 c.loop-term.term)
