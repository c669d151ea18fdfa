use Rattle.std.proofs.Common.{◌≡◌, ℕ, List, length, map, true, false, nat_eq, Ok, Err, refl, rules}
use Rattle.std.proofs.lemmas.Result.{err_from_is_err_and}
use Rattle.refusals.proofs.StepLemmas.{fails_along}
use Rattle.message_format.specs.declared.fault.WireFault.{WireFault}
use Rattle.message_format.specs.declared.fault.WireFault.TheVariants.{Long, NoGrant}
use Rattle.message_format.specs.declared.wire.Form.{Form}
use Rattle.message_format.specs.Messages.{EntryValue, entry_value}
use Rattle.message_format.specs.Reading.{Fails, is_out_of_memory, offset, magic_at, node_at, other_node_at, versions_at, header_at, entries_at, is_form_of, fields_at}
use Rattle.message_format.proofs.reading.read_fields.Goals as goal

-- where the fields before the entries are read
module _ (all nodes : ℕ) (left : List ℕ) (form : Form × List ℕ) (from to : ℕ × List ℕ)
    (versions : (ℕ × ℕ × ℕ) × List ℕ) (begun : magic_at all left ≡ Ok form) (sent : node_at all nodes form.1 ≡ Ok from)
    (sent_to : other_node_at all nodes from.0 from.1 ≡ Ok to) (told : versions_at all to.1 ≡ Ok versions) where
  header_read : header_at all nodes left ≡ Ok ((from.0, to.0, versions.0), versions.1)
  unfolding header_at
  header_read = rw (begun, sent, sent_to, told) refl

  no_entries : (e : WireFault) → Fails e (entries_at all nodes form.0 versions.1) → Fails e (fields_at all nodes left)
  unfolding fields_at
  no_entries e = fails_along is_out_of_memory e (entries_at all nodes form.0 versions.1) (fields_at all nodes left)
      (λ f refused. rw (begun, sent, sent_to, told, refused) refl)

  module _ (entries : List EntryValue × List ℕ) (listed : entries_at all nodes form.0 versions.1 ≡ Ok entries) where
    too_long : nat_eq (length entries.1) 0 ≡ false → fields_at all nodes left ≡ Err (Long (offset all entries.1))
    unfolding fields_at
    too_long some = rw (begun, sent, sent_to, told, listed, some) refl

    module _ (none : nat_eq (length entries.1) 0 ≡ true) where
      no_grant : is_form_of form.0 entries.0 ≡ false → fields_at all nodes left ≡ Err (NoGrant (offset all left))
      unfolding fields_at
      no_grant other = rw (begun, sent, sent_to, told, listed, none, other) refl

      fields_read : is_form_of form.0 entries.0 ≡ true
          → fields_at all nodes left ≡ Ok (record {
            from = from.0;
            to = to.0;
            base = versions.0.0;
            upto = versions.0.1;
            ack = versions.0.2;
            entries = entries.0;
          })
      unfolding fields_at
      fields_read formed = rw (begun, sent, sent_to, told, listed, none, formed) refl

pub returns-in_err-entries-clause-header : goal.returns-in_err-entries-clause-header
returns-in_err-entries-clause-header c =
    rw (header_read c.args.whole.len c.args.whole.nodes c.args.bytes.now (c.in_ok-form.form, c.in_ok-form.rest.now)
    (c.in_ok-from.from, c.in_ok-from.rest.now) (c.in_ok-to.to, c.in_ok-to.rest.now)
    ((c.in_ok-base.base, c.in_ok-base.upto, c.in_ok-base.ack), c.in_ok-base.rest.now) c.in_ok-form.ensures
    c.in_ok-from.ensures c.in_ok-to.ensures c.in_ok-base.ensures) tt

pub returns-then-not-is_empty-clause-header : goal.returns-then-not-is_empty-clause-header
returns-then-not-is_empty-clause-header c =
    rw (header_read c.args.whole.len c.args.whole.nodes c.args.bytes.now (c.in_ok-form.form, c.in_ok-form.rest.now)
    (c.in_ok-from.from, c.in_ok-from.rest.now) (c.in_ok-to.to, c.in_ok-to.rest.now)
    ((c.in_ok-base.base, c.in_ok-base.upto, c.in_ok-base.ack), c.in_ok-base.rest.now) c.in_ok-form.ensures
    c.in_ok-from.ensures c.in_ok-to.ensures c.in_ok-base.ensures) tt

pub returns-then-not-is_form_of-clause-header : goal.returns-then-not-is_form_of-clause-header
returns-then-not-is_form_of-clause-header c =
    rw (header_read c.args.whole.len c.args.whole.nodes c.args.bytes.now (c.in_ok-form.form, c.in_ok-form.rest.now)
    (c.in_ok-from.from, c.in_ok-from.rest.now) (c.in_ok-to.to, c.in_ok-to.rest.now)
    ((c.in_ok-base.base, c.in_ok-base.upto, c.in_ok-base.ack), c.in_ok-base.rest.now) c.in_ok-form.ensures
    c.in_ok-from.ensures c.in_ok-to.ensures c.in_ok-base.ensures) tt

pub returns-clause-header : goal.returns-clause-header
returns-clause-header c =
    rw (header_read c.args.whole.len c.args.whole.nodes c.args.bytes.now (c.in_ok-form.form, c.in_ok-form.rest.now)
    (c.in_ok-from.from, c.in_ok-from.rest.now) (c.in_ok-to.to, c.in_ok-to.rest.now)
    ((c.in_ok-base.base, c.in_ok-base.upto, c.in_ok-base.ack), c.in_ok-base.rest.now) c.in_ok-form.ensures
    c.in_ok-from.ensures c.in_ok-to.ensures c.in_ok-base.ensures) tt

pub returns-in_err-entries-clause-exact : goal.returns-in_err-entries-clause-exact
returns-in_err-entries-clause-exact c =
    let from = c.from_residual-in_err-entries in
    let p = err_from_is_err_and from.result from.ensures.1 in
    rw (p.1, p.2) (no_entries c.args.whole.len c.args.whole.nodes c.args.bytes.now (c.in_ok-form.form, c.in_ok-form.rest.now)
    (c.in_ok-from.from, c.in_ok-from.rest.now) (c.in_ok-to.to, c.in_ok-to.rest.now)
    ((c.in_ok-base.base, c.in_ok-base.upto, c.in_ok-base.ack), c.in_ok-base.rest.now) c.in_ok-form.ensures
    c.in_ok-from.ensures c.in_ok-to.ensures c.in_ok-base.ensures _ c.in_err-entries.ensures)

pub returns-then-not-is_empty-clause-exact : goal.returns-then-not-is_empty-clause-exact
returns-then-not-is_empty-clause-exact c =
    let some : nat_eq (length c.in_ok-entries.rest.now) 0 ≡ false = search rules in
    rw c.offset.ensures (too_long c.args.whole.len c.args.whole.nodes c.args.bytes.now (c.in_ok-form.form, c.in_ok-form.rest.now)
    (c.in_ok-from.from, c.in_ok-from.rest.now) (c.in_ok-to.to, c.in_ok-to.rest.now)
    ((c.in_ok-base.base, c.in_ok-base.upto, c.in_ok-base.ack), c.in_ok-base.rest.now) c.in_ok-form.ensures
    c.in_ok-from.ensures c.in_ok-to.ensures c.in_ok-base.ensures
    (map entry_value c.in_ok-entries.entries.items, c.in_ok-entries.rest.now) c.in_ok-entries.ensures some)

pub returns-then-not-is_form_of-clause-exact : goal.returns-then-not-is_form_of-clause-exact
returns-then-not-is_form_of-clause-exact c =
    let none : nat_eq (length c.in_ok-entries.rest.now) 0 ≡ true = search rules in
    let other : is_form_of c.in_ok-form.form (map entry_value c.in_ok-entries.entries.items) ≡ false = search rules in
    rw c.offset-then-not-is_form_of.ensures (no_grant c.args.whole.len c.args.whole.nodes c.args.bytes.now (c.in_ok-form.form, c.in_ok-form.rest.now)
    (c.in_ok-from.from, c.in_ok-from.rest.now) (c.in_ok-to.to, c.in_ok-to.rest.now)
    ((c.in_ok-base.base, c.in_ok-base.upto, c.in_ok-base.ack), c.in_ok-base.rest.now) c.in_ok-form.ensures
    c.in_ok-from.ensures c.in_ok-to.ensures c.in_ok-base.ensures
    (map entry_value c.in_ok-entries.entries.items, c.in_ok-entries.rest.now) c.in_ok-entries.ensures none other)

pub returns-clause-exact : goal.returns-clause-exact
returns-clause-exact c =
    let none : nat_eq (length c.in_ok-entries.rest.now) 0 ≡ true = search rules in
    let formed : is_form_of c.in_ok-form.form (map entry_value c.in_ok-entries.entries.items) ≡ true = search rules in
    fields_read c.args.whole.len c.args.whole.nodes c.args.bytes.now (c.in_ok-form.form, c.in_ok-form.rest.now)
    (c.in_ok-from.from, c.in_ok-from.rest.now) (c.in_ok-to.to, c.in_ok-to.rest.now)
    ((c.in_ok-base.base, c.in_ok-base.upto, c.in_ok-base.ack), c.in_ok-base.rest.now) c.in_ok-form.ensures
    c.in_ok-from.ensures c.in_ok-to.ensures c.in_ok-base.ensures
    (map entry_value c.in_ok-entries.entries.items, c.in_ok-entries.rest.now) c.in_ok-entries.ensures none formed
