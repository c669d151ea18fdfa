use Rattle.std.proofs.Common.{◌≡◌, ◌∙◌, ℕ, ◌&&◌, Bool, true, false, List, Option, Ok, Err, refl, sym, ap, subst, nat_lt, nat_le}
use Rattle.std.proofs.lemmas.Result.{err_from_is_err_and}
use Rattle.refusals.proofs.StepLemmas.{fails_along}
use Rattle.actions.specs.Limits.{max_name}
use Rattle.actions.specs.Names.{is_name}
use Rattle.message_format.specs.declared.fault.WireFault.{WireFault}
use Rattle.message_format.specs.declared.fault.WireFault.TheVariants.{BadName, NameOrder}
use Rattle.message_format.specs.Reading.{Fails, is_out_of_memory, byte_at, bytes_at, is_above, name_at, offset, wants}
use Rattle.message_format.proofs.Steps.{wants_ok}
use Rattle.message_format.proofs.entry.read_name.Goals as goal

-- of bytes that are so many as a name may have
module _ (all : ℕ) (last : Option (List ℕ)) (rest : List ℕ) (len : ℕ) (text name after : List ℕ)
    (first : byte_at all rest ≡ Ok (len, text)) (size : (nat_lt 0 len && nat_le len max_name) ≡ true)
    (bytes : bytes_at all len text ≡ Ok (name, after)) where
  no_name : (e : WireFault) → Fails e (wants (is_name name) (BadName (offset all text)) name) →
      Fails e (name_at all last rest)
  unfolding name_at
  no_name e = fails_along is_out_of_memory e (wants (is_name name) (BadName (offset all text)) name)
      (name_at all last rest) (λ f. by_test f (is_name name) refl)
    where
      by_test : (f : WireFault) (t : Bool) → is_name name ≡ t → wants t (BadName (offset all text)) name ≡ Err f →
          name_at all last rest ≡ Err f
      by_test f true e refused = absurd cc
      by_test f false e refused = rw (first, size, bytes, e) (cc refused)

  not_above : (named : List ℕ) → wants (is_name name) (BadName (offset all text)) name ≡ Ok named →
      is_above last named ≡ false → name_at all last rest ≡ Err (NameOrder (offset all text))
  unfolding name_at
  not_above named good below =
      let same = wants_ok (is_name name) (BadName (offset all text)) name named good in
      let lower : is_above last name ≡ false = subst (λ n. is_above last n ≡ false) (sym same.1) below in
      rw (first, size, bytes, same.0, lower) refl

  named_so : (named : List ℕ) → wants (is_name name) (BadName (offset all text)) name ≡ Ok named →
      is_above last named ≡ true → name_at all last rest ≡ Ok (named, after)
  unfolding name_at
  named_so named good above =
      let same = wants_ok (is_name name) (BadName (offset all text)) name named good in
      let higher : is_above last name ≡ true = subst (λ n. is_above last n ≡ true) (sym same.1) above in
      rw (first, size, bytes, same.0, higher) (ap (λ (n : List ℕ). Ok (n, after)) same.1)

pub returns-in_err-name-2 : goal.returns-in_err-name-2
returns-in_err-name-2 c =
    let from = c.from_residual-in_err-name-2 in
    let p = err_from_is_err_and from.result from.ensures.1 in
    let refused = rw c.offset-2.ensures at c.in_err-name-2.ensures in
    rw (p.1, p.2) (no_name c.args.whole.len _ c.args.rest.now c.in_ok-len.len c.in_ok-len.text.now
    c.in_ok-name.name.now c.in_ok-name.after.now c.in_ok-len.ensures
    (sym c.is_name_len.ensures ∙ c.if-not-is_name_len.false) (rw c.from.ensures at c.in_ok-name.ensures) _ refused)

pub returns-then-not-is_above : goal.returns-then-not-is_above
returns-then-not-is_above c =
    rw c.offset-then-not-is_above.ensures (not_above c.args.whole.len _ c.args.rest.now c.in_ok-len.len
    c.in_ok-len.text.now c.in_ok-name.name.now c.in_ok-name.after.now c.in_ok-len.ensures
    (sym c.is_name_len.ensures ∙ c.if-not-is_name_len.false) (rw c.from.ensures at c.in_ok-name.ensures)
    c.in_ok-name-2.name (rw c.offset-2.ensures at c.in_ok-name-2.ensures)
    (sym c.is_above.ensures ∙ c.if-not-is_above.true))

pub returns : goal.returns
returns c =
    named_so c.args.whole.len _ c.args.rest.now c.in_ok-len.len c.in_ok-len.text.now c.in_ok-name.name.now
    c.in_ok-name.after.now c.in_ok-len.ensures (sym c.is_name_len.ensures ∙ c.if-not-is_name_len.false)
    (rw c.from.ensures at c.in_ok-name.ensures) c.in_ok-name-2.name
    (rw c.offset-2.ensures at c.in_ok-name-2.ensures) (sym c.is_above.ensures ∙ c.if-not-is_above.false)
