use Rattle.std.specs.Prelude.{◌≡◌, ℕ, Bool, false, slice_index_or, Some}
use Rattle.std.proofs.Common.{◌∙◌, ap, rules}
use Rattle.actions.specs.Choice.{choice}
use Rattle.stamp_register.specs.Keys.{key_value}
use Rattle.node_steps.specs.Nodes.{setting_of}
use Rattle.node_steps.specs.Passes.{may_run}
use Rattle.node_steps.specs.Replicas.{state_in}
use Rattle.node_steps.proofs.Rights.{choice-same, may_by_rights}
use Rattle.node_steps.proofs.pass.choice_at.Goals as goal

pub returns-in-Some-actions-clause-term : goal.returns-in-Some-actions-clause-term
returns-in-Some-actions-clause-term g c =
    let v = state_in c.args.state.now in
    let key = key_value c.in-Some.found.0.now in
    let terms = c.in-Some-actions.actions.now in
    let marks = c.in-Some.found.1 in
    let marked : ℕ → Bool = λ k. slice_index_or marks k false in
    let set : setting_of v c.args.name.now ≡ Some (key, terms) = search rules in
    c.decide-term.ensures
    ∙ ap (λ words. choice terms words marked) c.deref.ensures.value
    ∙ choice-same terms c.in_ok-words.words.items marked (may_run c.args.me v c.args.name.now key terms)
    (λ k low. may_by_rights c.args.me v c.args.name.now key terms k (marked k) set (c.in-Some.ensures.rights k))
