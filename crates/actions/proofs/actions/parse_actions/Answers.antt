use Rattle.std.proofs.Common.{◌≡◌, ℕ, List, map, sym, ap, subst, ◌∙◌}
use Rattle.std.specs.Prelude.{Ok, Err, Result, Some, None, Option, IfSome, position, string_bytes}
use Rattle.std.proofs.lemmas.Result.{err_from_is_err_and}
use Rattle.refusals.specs.Refusals.{FailsUnless}
use Rattle.refusals.proofs.StepLemmas.{ok_is}
use Rattle.actions.specs.Value.{TermValue, term_value}
use Rattle.actions.specs.declared.task.Term.{Term}
use Rattle.actions.specs.Grammar.{SpellsActions}
use Rattle.actions.specs.Canonical.{canonical}
use Rattle.actions.specs.Reading.{is_out_of_memory, is_bad_byte, reading}
use Rattle.actions.specs.declared.fault.ActionFault.{ActionFault}
use Rattle.actions.specs.declared.fault.ActionFault.TheVariants.{BadByte}
use Rattle.actions.proofs.Sound.{reading_sound}
use Rattle.actions.proofs.Complete.{reading_complete}
use Rattle.actions.proofs.CanonicalLemmas.{canonical_spells, canonical_shortest}
use Rattle.actions.proofs.actions.parse_actions.Goals as goal

abbrev refused : (X : Type 0) → ActionFault → Result X ActionFault
refused X e = Err e

refused_by : (X : Type 0) (d e : ActionFault) → refused X d ≡ refused X e → d ≡ e
refused_by X d e h = cc

-- the fault is that of the byte, whatever is returned where there is none
same_fault : (X Y : Type 0) (found : Option ℕ) (e : ActionFault) →
    IfSome found (λ i. refused X e ≡ refused X (BadByte i))
    → IfSome found (λ i. refused Y e ≡ refused Y (BadByte i))
same_fault X Y (Some i) e h = ap (refused Y) (refused_by X e (BadByte i) h)
same_fault X Y None e h = tt

pub returns-in_err-terms-clause-only : goal.returns-in_err-terms-clause-only
returns-in_err-terms-clause-only c = λ ts h.
    let p = err_from_is_err_and c.from_residual.result c.from_residual.ensures.1 in
    rw (p.1, p.2) (subst (FailsUnless is_out_of_memory c.in_err-terms.field-0.0) (reading_complete c.args.text.now ts h)
    c.in_err-terms.ensures.exact)

pub returns-in_err-terms-clause-bad_byte : goal.returns-in_err-terms-clause-bad_byte
returns-in_err-terms-clause-bad_byte c = λ short.
    let p = err_from_is_err_and c.from_residual.result c.from_residual.ensures.1 in
    rw (p.1, p.2) (same_fault _ _ (position is_bad_byte c.args.text.now) c.in_err-terms.field-0.0
    (c.in_err-terms.ensures.bad_byte short))

pub new-requires-clause-spelled : goal.new-requires-clause-spelled
new-requires-clause-spelled c =
    let ts = map term_value c.in_ok-terms.terms.items in
    let s = reading_sound c.args.text.now ts c.in_ok-terms.ensures.exact in
    let e : string_bytes c.in_ok-text.text ≡ canonical ts =
    c.in_ok-text.ensures ∙ ap (λ (x : List Term). canonical (map term_value x)) c.deref.ensures.value in
    subst (λ (x : List ℕ). SpellsActions x ts) (sym e) (canonical_spells c.args.text.now ts s)

pub new-requires-clause-canonical : goal.new-requires-clause-canonical
new-requires-clause-canonical c =
    c.in_ok-text.ensures ∙ ap (λ (x : List Term). canonical (map term_value x)) c.deref.ensures.value

-- what was read is what the text says
is_said : (text : List ℕ) (terms actions : List TermValue) → reading text ≡ Ok terms → actions ≡ terms →
    reading text ≡ Ok actions
is_said text terms actions said same = said ∙ ap Ok (sym same)

pub returns-clause-found : goal.returns-clause-found
returns-clause-found c =
    reading_sound c.args.text.now _ (is_said c.args.text.now _ _ c.in_ok-terms.ensures.exact c.in_ok-actions.ensures)

pub returns-clause-exact : goal.returns-clause-exact
returns-clause-exact c = is_said c.args.text.now _ _ c.in_ok-terms.ensures.exact c.in_ok-actions.ensures

pub returns-clause-only : goal.returns-clause-only
returns-clause-only c =
    λ ts h. ap Ok (ok_is ts _ (sym (reading_complete c.args.text.now ts h) ∙
    is_said c.args.text.now _ _ c.in_ok-terms.ensures.exact c.in_ok-actions.ensures))

pub returns-clause-canonical_text : goal.returns-clause-canonical_text
returns-clause-canonical_text c =
    canonical_spells c.args.text.now _
    (reading_sound c.args.text.now _ (is_said c.args.text.now _ _ c.in_ok-terms.ensures.exact c.in_ok-actions.ensures))

pub returns-clause-no_longer : goal.returns-clause-no_longer
returns-clause-no_longer c =
    canonical_shortest c.args.text.now _
    (reading_sound c.args.text.now _ (is_said c.args.text.now _ _ c.in_ok-terms.ensures.exact c.in_ok-actions.ensures))
