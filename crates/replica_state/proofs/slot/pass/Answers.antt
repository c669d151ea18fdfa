use Rattle.std.specs.Prelude.{◌<◌, ◌^◌, Result, Ok, Err, OnErr}
use Rattle.std.specs.declared.alloc.AllocError.{AllocError}
use Rattle.std.proofs.Common.{◌+◌, Some, ap, sym, subst, ◌∙◌}
use Rattle.operations.specs.declared.counted.Counted.TheVariants.{Hits, Execs}
use Rattle.replica_state.specs.Points.{raised_numbers}
use Rattle.replica_state.specs.Slots.{slot_held, slot_number}
use Rattle.replica_state.proofs.Learned.{on_ok}
use Rattle.replica_state.proofs.SlotLemmas.{held_hit, held_pass, raised_on, aside}
use Rattle.replica_state.proofs.slot.pass.Goals as goal

pub returns-in_default-clause-ok : goal.returns-in_default-clause-ok
unfolding slot_held
returns-in_default-clause-ok c = on_ok c.hit.result (held_hit (slot_held c.args.slot.now) (slot_held c.hit.new.slot)
    c.args.node c.args.spent c.hit.ensures.key c.in_default.is) c.hit.ensures.ok

pub returns-then-of-eq0-clause-ok : goal.returns-then-of-eq0-clause-ok
unfolding slot_held
returns-then-of-eq0-clause-ok c =
    held_pass (slot_held c.args.slot.now) (slot_held (record
    { parts = record { first = c.execute.new.slot.parts.first; second = c.raise.new.self } })) c.args.node
    c.args.spent c.execute.ensures.key c.in-Some.term c.in-Some.is
    (aside c.args.slot.now c.execute.new.slot c.in_ok-counter.counter c.raise.new.self c.args.node c.in-Some.term
    (slot_number c.args.slot.now (Execs c.in-Some.term c.args.node) + 1) c.in_ok-execute.ensures.ok
    c.in_ok-counter.ensures c.in_ok-raise.ensures.ok (ap (λ n. n + 1) (sym c.of.ensures ∙ c.if-of-eq0.true)))

pub hit-requires-2 : goal.hit-requires-2
hit-requires-2 c = subst (λ n. n + 1 < 2 ^ 64) (sym (c.in_ok-execute-2.ensures.ok (Hits c.args.node))) c.requires.hits

pub returns-clause-ok : goal.returns-clause-ok
unfolding slot_held
returns-clause-ok c =
    let hits = c.in_ok-execute-2.ensures.ok (Hits c.args.node) in
    on_ok c.hit-2.result (λ f. held_pass (slot_held c.args.slot.now) (slot_held c.hit-2.new.slot) c.args.node
    c.args.spent (c.hit-2.ensures.key ∙ c.execute-2.ensures.key) c.in-Some.term c.in-Some.is
    (λ d. f d ∙ ap (λ n. raised_numbers (Some (record { counted = Hits c.args.node; number = n + 1 }))
    (slot_number c.execute-2.new.slot) d) hits
    ∙ raised_on (Some (record {
      counted = Hits c.args.node;
      number =
          slot_number c.args.slot.now (Hits c.args.node) + 1;
    })) (slot_number c.execute-2.new.slot) _
    c.in_ok-execute-2.ensures.ok d)) c.hit-2.ensures.ok

never : {A : Type 0} (r : Result A AllocError) (P Q : Type 0) → (P → ⊥) → OnErr r P → OnErr r Q
never (Ok x) P Q not h = tt
never (Err e) P Q not h = absurd (not h)

pub returns-clause-err : goal.returns-clause-err
returns-clause-err c =
    let hits = c.in_ok-execute-2.ensures.ok (Hits c.args.node) in
    never c.hit-2.result _ _ (λ none. c.if-of-eq0.false (c.of.ensures ∙ sym hits ∙ none)) c.hit-2.ensures.absent
