use mir.Syntax.{w128}
use mir.Val.{SFits}
use Rattle.std.proofs.Common.{rules, ap₂, ◌≡◌, ℕ, ◌<◌, ◌/◌, ◌-◌, ◌^◌, min, Ok, Err, Result, ◌∙◌, arith, ap, sym}
use Rattle.std.specs.Prelude.{OkIff, ℤ, unsigned_abs}
use Rattle.std.specs.Result.{result_unwrap_or}
use Rattle.std.proofs.Math.Nat.{div-zero}
use Rattle.std.proofs.lemmas.Int.{to_z-of_z}
use Rattle.replica_state.specs.States.{rights_of}
use Rattle.node_steps.specs.declared.config.Config.{Config}
use Rattle.node_core.specs.Traces.{state_known}
use Rattle.gossip.specs.Spreads.{share_of}
use Rattle.gossip.proofs.spreading.share.Goals as goal

of_none : (rights nodes : ℕ) → nodes ≡ 0 → min (rights / nodes) (2 ^ 64 - 1) ≡ 0
of_none rights nodes e = ap (λ n. min (rights / n) (2 ^ 64 - 1)) e ∙ ap (λ n. min n (2 ^ 64 - 1)) (div-zero rights)

capped : {E : Type 0} (share : ℕ) (read : Result ℕ E) → OkIff read (share < 2 ^ 64) share →
    result_unwrap_or read (2 ^ 64 - 1) ≡ min share (2 ^ 64 - 1)
capped share (Ok n) read = omega (arith, read.0, read.1)
capped share (Err e) read = omega (arith, read)

pub returns-then-nodes-eq0 : goal.returns-then-nodes-eq0
unfolding share_of
returns-then-nodes-eq0 c =
    sym (of_none _ c.args.core.now.config.nodes (sym (ap (λ k. k.nodes) c.config-node.ensures) ∙ c.if-nodes-eq0.true))

pub returns : goal.returns
unfolding share_of
returns c =
    let k = c.args.core.now in
    let rights = c.rights.result in
    let fits : SFits w128 rights = search rules in
    let at : ℕ → ℤ = λ node. rights_of (state_known k) c.args.name.now c.args.term node in
    let own : c.config-node.result.node ≡ k.config.node = ap (λ (d : Config). d.node) c.config-node.ensures in
    let nodes : c.from.result ≡ k.config.nodes = c.from.ensures ∙ ap (λ (d : Config). d.nodes) c.config-node.ensures in
    let value : c.unsigned_abs-rights.result ≡ unsigned_abs (at k.config.node) =
    c.unsigned_abs-rights.ensures.value
    ∙ ap unsigned_abs (to_z-of_z w128 rights fits ∙ c.rights.ensures.value ∙ ap at own) in
    c.unwrap_or.ensures
    ∙ capped (c.unsigned_abs-rights.result / c.from.result) c.try_from.result c.try_from.ensures
    ∙ ap₂ (λ r n. min (r / n) (2 ^ 64 - 1)) value nodes
