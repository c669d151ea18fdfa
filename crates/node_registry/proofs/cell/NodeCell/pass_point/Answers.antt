use Rattle.std.proofs.Common.{List, ℕ, ◌∙◌, ap, sym}
use Rattle.rand_chacha.specs.ChaCha.{ChaCha}
use Rattle.std.specs.Prelude.{option_map}
use Rattle.node_calls.specs.Told.{passed_ref}
use Rattle.node_steps.specs.Passes.{pass_reply}
use Rattle.node_core.specs.Traces.{Kept, state_known}
use Rattle.node_registry.specs.Receipts.{outcome_of}
use Rattle.node_registry.proofs.EnteredCells.{passes, passing_stays, same_passed}
use Rattle.node_registry.proofs.cell.NodeCell.pass_point.Goals as goal

pub invariant_of-self-2 : goal.invariant_of-self-2
invariant_of-self-2 c =
    let k : Kept = c.self.inside.core in
    let g : ChaCha = c.self.inside.generator in
    let arm = c.in_ok-pass_point_generating in
    let new : Kept = c.pass_point_generating.new.self in
    let after : ChaCha = c.pass_point_generating.new.generator in
    let made = passes k new g after c.args.point.now arm.field-0.items c.self.invariant.0 arm.ensures.ok
    arm.ensures.words arm.ensures.place in
    passing_stays k new g after c.args.point.now c.self.invariant made.0 arm.ensures.few arm.ensures.place

pub returns-clause-ok : goal.returns-clause-ok
returns-clause-ok c =
    let k : Kept = c.self.inside.core in
    let g : ChaCha = c.self.inside.generator in
    let arm = c.in_ok-pass_point_generating in
    let new : Kept = c.pass_point_generating.new.self in
    let after : ChaCha = c.pass_point_generating.new.generator in
    let made = passes k new g after c.args.point.now arm.field-0.items c.self.invariant.0 arm.ensures.ok
    arm.ensures.words arm.ensures.place in
    rw (← c.self.view_is) made.0

pub returns-clause-outcome : goal.returns-clause-outcome
returns-clause-outcome c =
    let k : Kept = c.self.inside.core in
    let g : ChaCha = c.self.inside.generator in
    let arm = c.in_ok-pass_point_generating in
    let new : Kept = c.pass_point_generating.new.self in
    let after : ChaCha = c.pass_point_generating.new.generator in
    let made = passes k new g after c.args.point.now arm.field-0.items c.self.invariant.0 arm.ensures.ok
    arm.ensures.words arm.ensures.place in
    rw (← c.self.view_is) (c.of.ensures ∙ ap outcome_of (same_passed _ _ _ (sym c.last_pass.ensures ∙ ap (λ r. option_map passed_ref r) c.in-Some.is) arm.ensures.last
    ∙ ap (λ (words : List ℕ). pass_reply k.config.node (state_known k) c.args.point.now words) made.1))
