use Rattle.std.proofs.Common.{ℕ, Some, sym, subst, take, arith}
use Rattle.stamp_register.specs.Keys.{key_value}
use Rattle.operations.specs.Operations.{Count, Shifts, IsWellFormed}
use Rattle.operations.specs.Counts.{operation_told}
use Rattle.operations.specs.declared.counted.Count.{Count as Counting}
use Rattle.message_format.specs.Spelling.{IsShift}
use Rattle.delta_exchange.proofs.KeysLearned.{by_its_key, has_still, formed_at}
use Rattle.delta_exchange.proofs.ToldSteps.{learned_next}
use Rattle.delta_exchange.proofs.learning.learn_shifts.Goals as goal

pub learn_count-requires : goal.learn_count-requires
learn_count-requires g c =
    let e = c.args.entry.now in
    let state = g.R.Replica.state in
    let told = λ (x : ℕ × ℕ × ℕ × ℕ). Count (Shifts e.name (key_value e.key) x.0 x.1 x.2) x.3 in
    let n = c.requires.entry.0 in
    let h = c.requires.entry.1 in
    let i = c.loop-term.term-index in
    let keyed = has_still told e.name (key_value e.key) (λ x. by_its_key e.name (key_value e.key))
    (state c.args.replica.now) (state c.loop-term.replica) (take i e.shifts.items) c.requires.keyed
    c.loop-term.invariant in
    let formed = formed_at {Is = IsShift n (key_value e.key)} told (λ x i. (omega (arith, i.4), i.0.0)) e.shifts.items
    h.shifts i (0, 0, 0, 0) (rw c.deref-term-items.ensures.value at c.loop-term-test.true) in (
      key_value e.key,
      keyed.2,
      subst (λ (t : Counting). IsWellFormed (operation_told e.name (key_value e.key) (Some t)))
          (sym (rw c.deref-term-items.ensures.value at c.times.ensures)) formed,
    )

pub loop-term-preserved : goal.loop-term-preserved
loop-term-preserved g c =
    let e = c.args.entry.now in
    let state = g.R.Replica.state in
    let told = λ (x : ℕ × ℕ × ℕ × ℕ). Count (Shifts e.name (key_value e.key) x.0 x.1 x.2) x.3 in
    let i = c.loop-term.term-index in
    let keyed = has_still told e.name (key_value e.key) (λ x. by_its_key e.name (key_value e.key))
    (state c.args.replica.now) (state c.loop-term.replica) (take i e.shifts.items) c.requires.keyed
    c.loop-term.invariant in
    let learned = c.in_ok-learn_count.ensures.ok (key_value e.key) keyed.2 in
    learned_next told e.shifts.items (state c.args.replica.now) (state c.loop-term.replica)
    (state c.learn_count.new.self) i (0, 0, 0, 0) (rw c.deref-term-items.ensures.value at c.loop-term-test.true)
    c.loop-term.invariant
    (rw (rw c.deref-term-items.ensures.value at c.times.ensures) at learned)
