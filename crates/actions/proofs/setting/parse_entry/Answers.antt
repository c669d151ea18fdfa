use Rattle.std.proofs.Common.{◌≡◌, ℕ, not, Some, Bool, true, false, if◌then◌else◌, List, Ok, Err, refl, ap, arith}
use Rattle.std.proofs.lemmas.Bool.{lt-ltb}
use Rattle.std.proofs.lemmas.Result.{err_from_is_err_and}
use Rattle.std.proofs.lemmas.Str.Pattern.{split_once_first}
use Rattle.refusals.proofs.StepLemmas.{ok_is, err_is_ok, fails_along}
use Rattle.refusals.specs.Refusals.{FailsUnless}
use Rattle.actions.specs.declared.fault.SettingFault.{SettingFault}
use Rattle.actions.specs.declared.fault.SettingFault.TheVariants.{BadName}
use Rattle.actions.specs.Bytes.{has_byte, text_before, text_after, equals_sign}
use Rattle.actions.specs.Names.{is_name}
use Rattle.actions.specs.Reading.{reading}
use Rattle.actions.specs.SettingReading.{is_out_of_memory, terms_read, entry_at}
use Rattle.actions.specs.Value.{TermValue}
use Rattle.actions.proofs.setting.parse_entry.Goals as goal

-- an entry whose name is one is read as its terms are
module _ (k : ℕ) (text front back name : List ℕ) (there : has_byte equals_sign text ≡ true)
    (before : front ≡ text_before equals_sign text) (after : back ≡ text_after equals_sign text)
    (named : (if not (is_name front) then Err (BadName k) else Ok front) ≡ Ok name) where
  entry_read : (terms : List TermValue) → terms_read k (reading back) ≡ Ok terms →
      entry_at k text ≡ Ok (name, terms)
  unfolding entry_at
  entry_read terms read = by_name (is_name front) refl named
    where
      by_name : (b : Bool) → is_name front ≡ b → (if not b then Err (BadName k) else Ok front) ≡ Ok name →
          entry_at k text ≡ Ok (name, terms)
      by_name true e n =
          rw (there, ← before, ← after, e, read) (ap (λ (x : List ℕ). Ok (x, terms)) (ok_is front name n))
      by_name false e n = err_is_ok (BadName k) name n

  entry_refused : (e : SettingFault) → FailsUnless is_out_of_memory e (terms_read k (reading back)) →
      FailsUnless is_out_of_memory e (entry_at k text)
  unfolding entry_at
  entry_refused e = fails_along is_out_of_memory e (terms_read k (reading back)) (entry_at k text)
      (λ f refused. by_name f refused (is_name front) refl named)
    where
      by_name : (f : SettingFault) → terms_read k (reading back) ≡ Err f → (b : Bool) → is_name front ≡ b
          → (if not b then Err (BadName k) else Ok front) ≡ Ok name → entry_at k text ≡ Err f
      by_name f refused true b n = rw (there, ← before, ← after, b, refused) refl
      by_name f refused false b n = err_is_ok (BadName k) name n

pub returns-in_err-actions : goal.returns-in_err-actions
returns-in_err-actions c =
    let text = c.args.text.now in
    let cut = split_once_first 61 text (Some (c.in-Some.name, c.in-Some.actions)) c.in-Some.ensures.cases (omega arith) in
    let from = c.from_residual-in_err-actions in
    let p = err_from_is_err_and from.result from.ensures.1 in
    rw (p.1, p.2) (entry_refused c.args.entry text c.in-Some.name.now c.in-Some.actions.now c.in_ok-name.name
    (lt-ltb _ _ cut.0) cut.1 cut.2 c.in_ok-name.ensures.exact _ c.in_err-actions.ensures)

pub returns : goal.returns
returns c =
    let text = c.args.text.now in
    let cut = split_once_first 61 text (Some (c.in-Some.name, c.in-Some.actions)) c.in-Some.ensures.cases (omega arith) in
    entry_read c.args.entry text c.in-Some.name.now c.in-Some.actions.now c.in_ok-name.name (lt-ltb _ _ cut.0) cut.1
    cut.2 c.in_ok-name.ensures.exact c.in_ok-actions.actions c.in_ok-actions.ensures
