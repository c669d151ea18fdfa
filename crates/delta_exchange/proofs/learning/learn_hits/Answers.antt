use Rattle.std.proofs.Common.{ℕ, Some, refl, sym, subst, take, arith}
use Rattle.stamp_register.specs.Keys.{key_value}
use Rattle.operations.specs.Operations.{Count, Hits, IsWellFormed}
use Rattle.operations.specs.Counts.{operation_told}
use Rattle.operations.specs.declared.counted.Count.{Count as Counting}
use Rattle.message_format.specs.Spelling.{IsHit}
use Rattle.delta_exchange.proofs.KeysLearned.{has_still, formed_at}
use Rattle.delta_exchange.proofs.ToldSteps.{learned_next}
use Rattle.delta_exchange.proofs.learning.learn_hits.Goals as goal

pub learn_count-requires : goal.learn_count-requires
learn_count-requires g c =
    let e = c.args.entry.now in
    let state = g.R.Replica.state in
    let told = λ (x : ℕ × ℕ). Count (Hits e.name x.0) x.1 in
    let n = c.requires.entry.0 in
    let h = c.requires.entry.1 in
    let i = c.loop-node.node-index in
    let keyed = has_still told e.name (key_value e.key) (λ x. refl) (state c.args.replica.now)
    (state c.loop-node.replica) (take i e.hits.items) c.requires.keyed c.loop-node.invariant in
    let formed = formed_at {Is = IsHit n} told (λ x i. omega (arith, i.1)) e.hits.items h.hits i (0, 0)
    (rw c.deref-node-items.ensures.value at c.loop-node-test.true) in (
      key_value e.key,
      keyed.2,
      subst (λ (t : Counting). IsWellFormed (operation_told e.name (key_value e.key) (Some t)))
          (sym (rw c.deref-node-items.ensures.value at c.times.ensures)) formed,
    )

pub loop-node-preserved : goal.loop-node-preserved
loop-node-preserved g c =
    let e = c.args.entry.now in
    let state = g.R.Replica.state in
    let told = λ (x : ℕ × ℕ). Count (Hits e.name x.0) x.1 in
    let i = c.loop-node.node-index in
    let keyed = has_still told e.name (key_value e.key) (λ x. refl) (state c.args.replica.now)
    (state c.loop-node.replica) (take i e.hits.items) c.requires.keyed c.loop-node.invariant in
    let learned = c.in_ok-learn_count.ensures.ok (key_value e.key) keyed.2 in
    learned_next told e.hits.items (state c.args.replica.now) (state c.loop-node.replica) (state c.learn_count.new.self)
    i (0, 0) (rw c.deref-node-items.ensures.value at c.loop-node-test.true) c.loop-node.invariant
    (rw (rw c.deref-node-items.ensures.value at c.times.ensures) at learned)
