use Rattle.std.proofs.Common.{ℕ, List, refl, sym, subst, IfOk, Result, Ok, Err}
use Rattle.message_format.specs.Messages.{message_value}
use Rattle.node_core.specs.Deliveries.{TellsDelta}
use Rattle.node_core.specs.Replicas.{value_in}
use Rattle.node_core.specs.Traces.{Kept, kept_of}
use Rattle.node_core.proofs.KeptVersions.{told_since}
use Rattle.node_core.proofs.VersionsInStep.{can_be_told}
use Rattle.node_core.proofs.node.NodeCore.message_to.Goals as goal

pub encode-requires : goal.encode-requires
encode-requires c =
    let node = c.self.inside in
    let k = kept_of node.config node.history.calls in
    let to = rw (← c.self.view_is) at c.requires.to in
    let since = c.in_ok-message.ensures.spelled k.config.nodes (can_be_told k node.clock (value_in node.replica)
    c.self.invariant c.args.to to.0 to.1) in
    (k.config.nodes, (since.spelled, refl, since.short))

if_ok : {T : Type 0} {E : Type 0} (r : Result T E) (P Q : T → Type 0) → ((t : T) → P t → Q t) → IfOk r P → IfOk r Q
if_ok (Ok t) P Q f h = f t h
if_ok (Err e) P Q f h = tt

pub returns : goal.returns
returns c =
    let node = c.self.inside in
    let k = kept_of node.config node.history.calls in
    let to = rw (← c.self.view_is) at c.requires.to in
    let since = c.in_ok-message.ensures.spelled k.config.nodes (can_be_told k node.clock (value_in node.replica)
    c.self.invariant c.args.to to.0 to.1) in
    let since_known = rw c.acked-base.ensures at since in
    let told = told_since k c.args.to (value_in node.replica) (message_value c.in_ok-message.message) c.self.invariant.1
    since_known in
    if_ok c.encode.result _ _ (λ b e. subst (λ (kept : Kept). TellsDelta kept c.args.to b.items) c.self.view_is
    (subst (λ (bytes : List ℕ). TellsDelta k c.args.to bytes) (sym e) told)) c.encode.ensures
