use Rattle.std.proofs.Common.{true, List, ℕ, map, sym, ◌∙◌, string_bytes}
use Rattle.node_steps.specs.Replicas.{state_in}
use Rattle.replica_state.specs.States.{State}
use Rattle.node_steps.proofs.Listing.{grown, grown_step, grown_end, all_grown}
use Rattle.node_steps.proofs.list.list_of.Goals as goal

pub loop-name-init : goal.loop-name-init
loop-name-init c =
    let v : State = state_in c.args.state.now in
    rw c.into_iter-name-iterator.ensures.into_iter_gives
    ((λ i. grown v true (c.new-text.ensures.bytes i) (c.points-name-items.ensures.names i)) ∙ all_grown v)

pub loop-name-preserved : goal.loop-name-preserved
loop-name-preserved c =
    let v : State = state_in c.args.state.now in
    let name : List ℕ = c.in-Some.name.now in
    let before = rw c.in-Some.ensures.steps at c.loop-name.invariant in
    let told = c.in_ok-is_first.ensures in
    (λ i. grown v (told.first i) (told.text i) (map (λ e. e.0) c.next.new.self))
    ∙ sym (grown_step v c.loop-name.is_first (string_bytes c.loop-name.text) name (map (λ e. e.0) c.next.new.self)) ∙
    before

pub returns : goal.returns
returns c =
    let before = rw c.in-None.ensures.steps.0 at c.loop-name.invariant in
    sym (grown_end (state_in c.args.state.now) c.loop-name.is_first (string_bytes c.loop-name.text)) ∙ before
