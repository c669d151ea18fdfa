use Rattle.std.proofs.Common.{◌≡◌, ◌≢◌, ◌≤◌, ℕ, ◌+◌, if◌then◌else◌, List, [], map, get_or, ◌∙◌, ap, sym, refl, arith}
use Rattle.node_steps.specs.declared.config.Config.{Config}
use Rattle.node_calls.specs.Asks.{Asked, Shift}
use Rattle.gossip.specs.Reports.{others_below}
use Rattle.gossip.specs.Spreads.{shifts_below}
use Rattle.gossip.proofs.RangeLemmas.{unequal}
use Rattle.gossip.proofs.StepLemmas.{adds_as, adds_itself, adds_next, adds_none, adds_up_to, length_itself, length_next}
use Rattle.gossip.proofs.spreading.shift_term.Goals as goal
use Rattle.gossip.proofs.spreading.shift_term.Goals.{then-to-shares+in_ok-shift_one, else-to-shares}

shifts_are : (config : Config) (name : List ℕ) (term amount share n : ℕ) → amount ≡ share → amount ≢ 0
    → map (λ to. Shift name term to amount) (others_below config n) ≡ shifts_below config name term share n
shifts_are config name term amount share n e some =
    let all : ℕ → List Asked = λ s. map (λ to. Shift name term to s) (others_below config n) in
    sym (ap (λ b. if b then [] else all amount) (unequal amount 0 some)) ∙ ap (λ s. shifts_below config name term s n) e

pub returns-then-amount-eq0-clause-adds : goal.returns-then-amount-eq0-clause-adds
returns-then-amount-eq0-clause-adds g c = adds_none _ _ _ _ _ _ _ refl refl refl refl refl refl refl refl

pub loop-to-init : goal.loop-to-init
loop-to-init g c = record {
  adds = adds_none _ _ _ _ _ _ _ refl refl refl refl refl refl refl refl;
  emitted = refl;
  delivered = refl;
  tried = omega arith;
  few = omega arith;
}

pub returns-in_err-shift_one-clause-adds : goal.returns-in_err-shift_one-clause-adds
returns-in_err-shift_one-clause-adds g c =
    let config = g.L.Label.config in
    let amounts = c.args.shares.now.amounts in
    let amount = get_or amounts c.from.result 0 in
    let shift : ℕ → Asked = λ to. Shift c.args.name.now c.args.term to amount in
    let own = ap (λ (k : Config). k.node) c.requires.config in
    let all = ap (λ (k : Config). k.nodes) c.requires.config in
    let other : c.loop-to.to ≢ config.node = omega (arith, own, c.if-to-shares.true) in
    let within : c.loop-to.to + 1 ≤ config.nodes = omega (arith, all, c.loop-to-test.true) in
    adds_as
    (adds_up_to shift config.node (c.loop-to.to + 1) config.nodes within
    (adds_next shift config.node c.loop-to.to other c.loop-to.invariant.adds c.shift_one.ensures.adds))
    (shifts_are config c.args.name.now c.args.term amount (get_or amounts c.args.term 0) config.nodes
    (ap (λ i. get_or amounts i 0) c.from.ensures) c.if-amount-eq0.false)

pub loop-to-preserved : goal.loop-to-preserved
loop-to-preserved g c =
    let config = g.L.Label.config in
    let amount = get_or c.args.shares.now.amounts c.from.result 0 in
    let shift : ℕ → Asked = λ to. Shift c.args.name.now c.args.term to amount in
    let own = ap (λ (k : Config). k.node) c.requires.config in
    let was = c.loop-to.invariant in
    elim c.if-to-shares.branch [
      | then-to-shares+in_ok-shift_one w ↦
          let other : c.loop-to.to ≢ config.node = omega (arith, own, w.if-to-shares.true) in
          let more = length_next shift config.node c.loop-to.to other in
          rw (w.seat-is, w.report-is) record {
            adds = adds_next shift config.node c.loop-to.to other was.adds w.shift_one.ensures.adds;
            emitted = w.shift_one.ensures.emitted ∙ was.emitted;
            delivered = w.shift_one.ensures.delivered ∙ was.delivered;
            tried = omega (arith, was.tried, more, w.in_ok-shift_one.ensures.tried);
            few = omega (arith, was.few, w.shift_one.ensures.few);
          }
      | else-to-shares w ↦
          let itself : c.loop-to.to ≡ config.node = omega (arith, own, w.if-to-shares.false) in
          let more = length_itself shift config.node c.loop-to.to itself in
          rw (w.seat-is, w.report-is) record {
            adds = adds_itself shift config.node c.loop-to.to itself was.adds;
            emitted = was.emitted;
            delivered = was.delivered;
            tried = omega (arith, was.tried, more);
            few = omega (arith, was.few);
          }
    ]
