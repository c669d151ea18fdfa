use Rattle.std.proofs.Common.{◌≡◌, ◌+◌, sym, ◌∙◌, ap, subst, arith, Some, None, IfSome, IfNone, true, false}
use Rattle.std.proofs.lemmas.Result.{on_ok_weaker}
use Rattle.std.specs.Prelude.{option_map}
use Rattle.actions.specs.Names.{is_name}
use Rattle.stamp_register.specs.Keys.{stamp_of}
use Rattle.node_calls.specs.Told.{ask_ref_told}
use Rattle.packed_trace.specs.Packed.{seen_told}
use Rattle.node_core.specs.Traces.{state_known}
use Rattle.audit.specs.Sums.{sum_of}
use Rattle.audit.proofs.Noted.{grant_named, grant_adds, grant_none}
use Rattle.audit.proofs.tally.note_grant.Goals as goal

pub returns-in_default-2-clause-value : goal.returns-in_default-2-clause-value
returns-in_default-2-clause-value c = λ k is stamp term.
    let bad = subst (λ o. IfNone o (is_name c.in-Grant.name.now ≡ false)) c.in_default-2.is c.in_ok-name.ensures.none in
    absurd (grant_named k c.args.core.now (seen_told c.args.seen) is c.in-Grant.name.now c.in-Grant.term
    c.in-Grant.amount (sym c.ask.ensures ∙ ap ask_ref_told c.in-Grant.is) bad)

pub returns-in_default-stamp_at-clause-value : goal.returns-in_default-stamp_at-clause-value
returns-in_default-stamp_at-clause-value c = λ k is stamp term.
    let named = subst (λ o. IfSome o (λ n. (n ≡ c.in-Grant.name.now) × (is_name c.in-Grant.name.now ≡ true)))
    c.in-Some.is c.in_ok-name.ensures.name in
    let none = sym c.stamp_at.ensures ∙ c.in_default-stamp_at.is in
    let zero = grant_none k c.args.core.now (seen_told c.args.seen) is c.in-Grant.name.now c.in-Grant.term
    c.in-Grant.amount (sym c.ask.ensures ∙ ap ask_ref_told c.in-Grant.is)
    (subst (λ n. option_map stamp_of ((state_known c.args.core.now).key n) ≡ None) named.0 none)
    stamp term in
    omega (arith, zero)

pub returns-clause-value : goal.returns-clause-value
returns-clause-value c = on_ok_weaker c.add.result (λ added k is stamp term.
    let named = subst (λ o. IfSome o (λ n. (n ≡ c.in-Grant.name.now) × (is_name c.in-Grant.name.now ≡ true)))
    c.in-Some.is c.in_ok-name.ensures.name in
    let some = sym c.stamp_at.ensures ∙ c.in-Some-stamp_at.is in
    added stamp term ∙ ap (λ n. sum_of c.args.granted.now stamp term + n)
    (sym (grant_adds k c.args.core.now (seen_told c.args.seen) is c.in-Grant.name.now c.in-Grant.term
    c.in-Grant.amount (sym c.ask.ensures ∙ ap ask_ref_told c.in-Grant.is) c.in-Some-stamp_at.stamp
    (subst (λ n. option_map stamp_of ((state_known c.args.core.now).key n) ≡ Some c.in-Some-stamp_at.stamp)
    named.0 some) stamp term))) c.add.ensures
