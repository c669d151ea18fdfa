use Rattle.std.specs.Prelude.{◌≡◌, ◌<ℤ◌, ℕ, ℤ, get_or, pos}
use Rattle.std.proofs.Common.{ap, arith, refl, subst, sym, ◌∙◌, ⊎_elim}
use Rattle.std.proofs.lemmas.Bool.{cases_lt}
use Rattle.std.proofs.lemmas.Grind.{get_or_default_zero}
use Rattle.std.proofs.lemmas.Int.{ints, to_z-of_z}
use mir.Syntax.{w128}
use Rattle.replica_state.specs.Slots.{slot_rights}
use Rattle.replica_state.proofs.slot.have_each.Goals as goal

pub loop-node-preserved : goal.loop-node-preserved
loop-node-preserved c = λ k d low.
    let nodes = c.args.nodes.now in
    let here = c.loop-node.node-index in
    let read : ℕ → ℤ = slot_rights c.args.slot.now c.args.term in
    let same = to_z-of_z w128 c.rights.result (record { sfits = c.rights.type_inv }) in
    let right : pos 0 <ℤ c.rights.result = omega (arith, ints, same, c.if-rights-le0.false) in
    ⊎_elim
    (λ before. c.loop-node.invariant k d before)
    (λ past. let is : k ≡ here = omega (arith, past, low) in
    let at = get_or_default_zero nodes here d (omega (arith, c.loop-node-test.true)) in
    subst (λ (r : ℤ). pos 0 <ℤ r)
    (c.rights.ensures ∙ ap read (sym at) ∙ ap (λ (i : ℕ). read (get_or nodes i d)) (sym is)) right)
    (cases_lt k here)

pub returns : goal.returns
returns c = (λ _ k d low. c.loop-node.invariant k d (omega (arith, low, c.loop-node-test.false)), λ _. refl)
