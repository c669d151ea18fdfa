use Rattle.std.proofs.Common.{◌≡◌, ℕ, ◌+◌, ◌<◌, Bool, false, IsTrue, ◌∙◌, sym, ap, refl, subst, ⊎_elim, arith, rules, FitsSigned}
use Rattle.std.proofs.lemmas.Bool.{true≢false, cases_lt}
use Rattle.std.proofs.lemmas.Int.{ints, to_z-of_z}
use Rattle.std.specs.Prelude.{ℤ, pos, negsuc, ◌≤ℤ◌}
use Rattle.std.specs.Int.{w128}
use Rattle.std.proofs.Math.IntN.{nat_abs}
use Rattle.actions.specs.Value.{term_value}
use Rattle.stamp_register.specs.Keys.{key_value}
use Rattle.node_steps.specs.Replicas.{state_in}
use Rattle.node_steps.proofs.ShiftRefusals.{is_other, is_none_other, bad_node, zero_amount, too_few_rights, cell_full, no_refusal, not_set, no_such_term, not_counted, past_most, upto_most, some, no_sum}
use Rattle.node_steps.proofs.shift.total_with.Goals as goal

lack : (b : Bool) (P : Type 0) → b ≡ false → (P → IsTrue b) → P → ⊥
lack b P e f h = true≢false (sym (f h) ∙ e)

-- a number that isn't negative
whole : (z : ℤ) → pos 0 ≤ℤ z → z ≡ pos (nat_abs z)
whole (pos n) h = refl
whole (negsuc n) h = absurd (omega (arith, ints, h))

fewer : (z : ℤ) (n amount : ℕ) → z ≡ pos n → (pos amount ≤ℤ z → ⊥) → n < amount
fewer z n amount e not = ⊎_elim (λ less. less) (λ more. absurd
    (not (subst (λ (y : ℤ). pos amount ≤ℤ y) (sym e) (omega (arith, ints, more))))) (cases_lt n amount)

pub returns-then-to-config-clause-refused : goal.returns-then-to-config-clause-refused
returns-then-to-config-clause-refused c =
    bad_node c.args.config (state_in c.args.state.now) c.args.name.now c.args.term c.args.to c.args.amount
    (key_value c.in-Some.field-0-0.now) c.in-Some.actions.now (term_value c.in-Some-term.found.now)
    c.in-Some-count.field-0
    c.in-Some.ensures.value (sym c.in-Some-term.ensures) c.in-Some-count.is
    (is_none_other c.args.config c.args.to c.then-to-config.either)

pub returns-then-amount-eq0-clause-refused : goal.returns-then-amount-eq0-clause-refused
returns-then-amount-eq0-clause-refused c =
    zero_amount c.args.config (state_in c.args.state.now) c.args.name.now c.args.term c.args.to c.args.amount
    (key_value c.in-Some.field-0-0.now) c.in-Some.actions.now (term_value c.in-Some-term.found.now)
    c.in-Some-count.field-0
    c.in-Some.ensures.value (sym c.in-Some-term.ensures) c.in-Some-count.is
    (is_other c.args.config c.args.to c.if-to-config.false c.if-to-config-2.false) c.if-amount-eq0.true

pub returns-in-None-clause-refused : goal.returns-in-None-clause-refused
returns-in-None-clause-refused c =
    cell_full c.args.config (state_in c.args.state.now) c.args.name.now c.args.term c.args.to c.args.amount
    (key_value c.in-Some.field-0-0.now) c.in-Some.actions.now (term_value c.in-Some-term.found.now)
    c.in-Some-count.field-0
    c.in-Some.ensures.value (sym c.in-Some-term.ensures) c.in-Some-count.is
    (is_other c.args.config c.args.to c.if-to-config.false c.if-to-config-2.false)
    (some c.args.amount c.if-amount-eq0.false) (c.has_rights.ensures.0 c.if-not-has_rights.false)
    (past_most _ _ (ap (λ m. m + c.args.amount) c.moved.ensures)
    (no_sum c.checked_add.result _ _ c.in-None.is c.checked_add.ensures))

pub returns-in-Some-checked_add-clause-ok : goal.returns-in-Some-checked_add-clause-ok
returns-in-Some-checked_add-clause-ok c =
    let sum = c.in-Some-checked_add.ensures in (
      no_refusal c.args.config (state_in c.args.state.now) c.args.name.now c.args.term c.args.to c.args.amount
          (key_value c.in-Some.field-0-0.now) c.in-Some.actions.now (term_value c.in-Some-term.found.now)
          c.in-Some-count.field-0
          c.in-Some.ensures.value (sym c.in-Some-term.ensures) c.in-Some-count.is
          (is_other c.args.config c.args.to c.if-to-config.false c.if-to-config-2.false)
          (some c.args.amount c.if-amount-eq0.false) (c.has_rights.ensures.0 c.if-not-has_rights.false)
          (upto_most _ _ (ap (λ m. m + c.args.amount) c.moved.ensures) sum.0),
      sum.1 ∙ ap (λ m. m + c.args.amount) c.moved.ensures,
    )

pub returns-then-not-has_rights-clause-refused : goal.returns-then-not-has_rights-clause-refused
returns-then-not-has_rights-clause-refused c =
    let have = c.rights-have.ensures in
    let own = c.requires.own in
    let fits : FitsSigned w128 c.rights-have.result = search rules in
    let is = whole c.rights-have.result (subst (λ (z : ℤ). pos 0 ≤ℤ z) (sym have) own) ∙
    ap (λ (z : ℤ). pos (nat_abs z)) (sym (to_z-of_z w128 c.rights-have.result fits)) in
    let not = lack c.has_rights.result _ c.if-not-has_rights.true c.has_rights.ensures.1 in
    too_few_rights c.args.config (state_in c.args.state.now) c.args.name.now c.args.term c.args.to c.args.amount
    (key_value c.in-Some.field-0-0.now) c.in-Some.actions.now (term_value c.in-Some-term.found.now)
    c.in-Some-count.field-0
    c.in-Some.ensures.value (sym c.in-Some-term.ensures) c.in-Some-count.is
    (is_other c.args.config c.args.to c.if-to-config.false c.if-to-config-2.false)
    (some c.args.amount c.if-amount-eq0.false) _ (sym have ∙ is) (fewer _ _ c.args.amount (sym have ∙ is) not)

pub returns-in_default-clause-refused : goal.returns-in_default-clause-refused
returns-in_default-clause-refused c = not_set c.args.config (state_in c.args.state.now) c.args.name.now c.args.term
    c.args.to c.args.amount c.in_default.ensures.value

pub returns-in_default-term-clause-refused : goal.returns-in_default-term-clause-refused
returns-in_default-term-clause-refused c =
    no_such_term c.args.config (state_in c.args.state.now) c.args.name.now c.args.term c.args.to c.args.amount
    (key_value c.in-Some.field-0-0.now) c.in-Some.actions.now
    c.in-Some.ensures.value c.in_default-term.ensures

pub returns-in_default-count-clause-refused : goal.returns-in_default-count-clause-refused
returns-in_default-count-clause-refused c =
    not_counted c.args.config (state_in c.args.state.now) c.args.name.now c.args.term c.args.to c.args.amount
    (key_value c.in-Some.field-0-0.now) c.in-Some.actions.now
    c.in-Some.ensures.value (term_value c.in-Some-term.found.now) (sym c.in-Some-term.ensures) c.in_default-count.is
