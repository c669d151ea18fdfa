use Rattle.std.proofs.Common.{sym, ap, ◌∙◌}
use Rattle.packed_trace.specs.Packed.{acted_by}
use Rattle.stamp_register.specs.Keys.{key_value}
use Rattle.node_steps.specs.Replicas.{state_in}
use Rattle.node_steps.proofs.PassReplies.{kept_reply}
use Rattle.node_steps.proofs.Rights.{spent_right}
use Rattle.node_steps.proofs.pass.outcome_of.Goals as goal

pub returns-clause-rights : goal.returns-clause-rights
returns-clause-rights g c = λ term spends.
    let setting = rw c.in-Some.is at c.in_ok-words.ensures.setting in
    let chosen = rw c.in-Some.is at c.in_ok-words.ensures.term in
    spent_right c.args.me (state_in c.args.state.now) c.args.name.now c.in_ok-words.words.items (key_value c.in-Some.key.now) c.in-Some.actions.now c.in-Some.term term setting chosen (sym c.spent_term.ensures.value ∙ spends)

pub returns-clause-reply : goal.returns-clause-reply
returns-clause-reply g c =
    let setting = rw c.in-Some.is at c.in_ok-words.ensures.setting in
    let chosen = rw c.in-Some.is at c.in_ok-words.ensures.term in
    ap (λ stamp. acted_by (stamp, c.in-Some.actions.now) c.in-Some.term) c.stamp.ensures
    ∙ kept_reply c.args.me (state_in c.args.state.now) c.args.name.now c.in_ok-words.words.items
    (key_value c.in-Some.key.now) c.in-Some.actions.now c.in-Some.term setting chosen
