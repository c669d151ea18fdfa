use Rattle.std.proofs.Common.{◌≡◌, ◌<◌, ◌^◌, ◌∙◌, ℕ, List, length, Option, ap, refl, subst, sym}
use Rattle.std.specs.Option.{IfSome}
use Rattle.replica_state.specs.States.{State}
use Rattle.node_core.proofs.NamedRefusals.{passed_on}
use Rattle.node_core.proofs.PassAccepted.{pass_call, pass_fits, pass_refused}
use Rattle.node_core.proofs.VersionsInStep.{entries_with, few_calls, kept_with, may_pass, pass_with}
use Rattle.history.specs.Histories.{Calls, grown}
use Rattle.node_calls.specs.Asks.{Pass}
use Rattle.node_calls.specs.Told.{Told, passes, was_passed}
use Rattle.packed_trace.specs.Packed.{pass_value, passed_by, setting_ref_told}
use Rattle.node_core.specs.Traces.{with_call, IsRefusalOf, Kept, after_call, kept_of, state_known}
use Rattle.node_steps.specs.Passes.{pass_reply, words_for}
use Rattle.node_steps.specs.Replicas.{state_in}
use Rattle.node_core.specs.Replicas.{value_in}
use Rattle.node_core.proofs.node.NodeCore.pass.Given.{Over}
use Rattle.node_core.proofs.node.NodeCore.pass.Goals as goal

pub returns-in_err-words-clause-refused : goal.returns-in_err-words-clause-refused
returns-in_err-words-clause-refused g c =
    let known : state_in c.state.result.now ≡ state_known c.args.self.now =
    c.state.ensures ∙ sym c.self.invariant.1.state_is ∙ ap state_known c.self.view_is in
    let words = g.S.WordSource.next_words c.args.source.now (words_for (state_known c.args.self.now) c.args.point.now) in
    passed_on (IsRefusalOf c.args.self.now (Pass c.args.point.now) words) _ _ c.from_residual.ensures.0
    c.from_residual.ensures.1
    (pass_refused c.args.self.now c.args.point.now words c.requires.room c.requires.named _
    (rw known at c.in_err-words.ensures.refused))

pub count-requires : goal.count-requires
count-requires g c =
    let node = c.self.inside in
    let k = kept_of node.config node.history.calls in
    let room = rw (← c.self.view_is) at c.requires.room in
    let key = rw c.state.ensures at c.in_ok-words.ensures.key in
    let rights = rw c.state.ensures at c.in_ok-words.ensures.rights in
    may_pass k node.clock (value_in node.replica) c.self.invariant room c.args.point.now c.is_some-is_set.result
    c.in_ok-words.outcome.spent (λ set. key (sym c.is_some-is_set.ensures ∙ set)) rights

-- what is kept of it
abbrev kept : (g : Over) (c : goal.After-push g) → Told
kept g c = record {
  ask = passes c.args.point.now;
  words = c.in_ok-words.words.items;
  reply = was_passed (passed_by (setting_ref_told c.in_ok-words.outcome.setting) c.in_ok-words.outcome.term);
}

is_kept : (g : Over) (c : goal.After-push g) → c.push.new.self.calls ≡ grown c.self.inside.history.calls (kept g c)
is_kept g c =
    let told = c.in-Ok.ensures.told ∙ ap pass_value c.pass-pass.ensures ∙
    ap (λ (ws : List ℕ). record { ask = passes c.args.point.now; words = ws; reply = (kept g c).reply })
    c.deref.ensures.value in
    c.push.ensures.calls ∙ ap (λ (t : Told). grown c.prepare.new.self.calls t) told
    ∙ ap (λ (calls : Calls). grown calls (kept g c)) c.in-Ok.ensures.calls

pub invariant_of-self-2 : goal.invariant_of-self-2
invariant_of-self-2 g c =
    let node = c.self.inside in
    let k = kept_of node.config node.history.calls in
    let room = rw (← c.self.view_is) at c.requires.room in
    let ops = rw (← c.is_some-is_set.ensures) at rw c.state.ensures at c.in_ok-words.ensures.ops in
    let key = rw c.state.ensures at c.in_ok-words.ensures.key in
    let rights = rw c.state.ensures at c.in_ok-words.ensures.rights in
    entries_with node.config _ _ node.history.calls _ c.push.new.self.calls (kept g c) (is_kept g c) refl
    (pass_with k node.clock (value_in node.replica) _ _ c.self.invariant c.is_some-is_set.result
    {name = c.args.point.now} {words = c.in_ok-words.words.items} {spent = c.in_ok-words.outcome.spent} (record {
      room = room;
      asks = refl;
      drawn = refl;
      ops = ops;
      key = λ set. key (sym c.is_some-is_set.ensures ∙ set);
      right = λ t s. (
        subst (λ (o : Option ℕ). IfSome o (λ term. term < 2 ^ 8)) s c.in_ok-words.ensures.low,
        rights t s,
      );
    })
    c.in_default-count.ensures.done c.in_default-count.ensures.unset)

pub push-requires-clause-few : goal.push-requires-clause-few
push-requires-clause-few g c =
    let node = c.self.inside in
    let room = rw (← c.self.view_is) at c.requires.room in
    few_calls node.config node.clock (value_in node.replica) node.history.calls _ c.self.invariant room
    c.in-Ok.ensures.calls

pub returns-clause-ok : goal.returns-clause-ok
returns-clause-ok g c =
    let node = c.self.inside in
    let k = kept_of node.config node.history.calls in
    let name = c.args.point.now in
    let words = c.in_ok-words.words.items in
    let known : state_in c.state.result.now ≡ state_known k = c.state.ensures ∙ sym c.self.invariant.1.state_is in
    let many : length words ≡ words_for (state_known c.args.self.now) name =
    sym c.in_ok-words.words.ok.0 ∙ c.in_ok-words.ensures.many
    ∙ ap (λ (v : State). words_for v name) (known ∙ ap state_known c.self.view_is) in
    let answered = c.in_ok-words.ensures.reply
    ∙ ap (λ (v : State). pass_reply node.config.node v name words) known in (
      pass_fits c.args.self.now name words c.requires.room c.requires.named many,
      refl,
      kept_with node.config node.history.calls c.push.new.self.calls (kept g c) (is_kept g c)
          ∙ ap (with_call k) (pass_call k name words _ answered)
          ∙ ap (λ (j : Kept). after_call j (Pass name) words) c.self.view_is,
    )
