use Rattle.std.proofs.Common.{◌≡◌, ◌∙◌, List, [], ◌∷◌, ◌++◌, length, length-append, map, ap, rules}
use Rattle.node_calls.specs.Told.{told}
use Rattle.node_calls.specs.declared.trace.Entry.{Entry as AnEntry}
use Rattle.packed_trace.specs.declared.trace.Slot.{Slot}
use Rattle.packed_trace.specs.Packed.{Packed, entry_slot, row_told, told_by}
use Rattle.packed_trace.proofs.Stays.{entry_comes, kept_with_entry}
use Rattle.packed_trace.proofs.trace.Trace.push_entry.Goals as goal

pub returns-clause-calls : goal.returns-clause-calls
returns-clause-calls c =
    let rows = map row_told c.self.inside.rows.items in
    let entries = c.self.inside.entries.items in
    let slots = c.self.inside.slots.items in
    let number : c.len-number.result ≡ length entries = search rules in
    let put = c.push_reserved-2.ensures.items ∙ ap (λ (slot : Slot). slots ++ slot ∷ [])
    (c.entry_slot.ensures ∙ ap entry_slot number) in
    ap (λ (es : List AnEntry). map (told_by rows (map told es)) c.push_reserved-2.new.self.items)
    c.push_reserved.ensures.items ∙
    ap (map (told_by rows (map told (entries ++ c.args.entry ∷ [])))) put ∙
    entry_comes c.self.inside.rows.items entries c.args.entry slots c.self.invariant.0 ∙
    ap (λ (p : Packed). p.calls ++ told c.args.entry ∷ []) c.self.view_is

pub returns-clause-rows : goal.returns-clause-rows
returns-clause-rows c = ap (λ (p : Packed). p.rows) c.self.view_is

pub invariant_of-self : goal.invariant_of-self
invariant_of-self c =
    let entries = c.self.inside.entries.items in
    let slots = c.self.inside.slots.items in
    let number : c.len-number.result ≡ length entries = search rules in
    let put = c.push_reserved-2.ensures.items ∙ ap (λ (slot : Slot). slots ++ slot ∷ [])
    (c.entry_slot.ensures ∙ ap entry_slot number) in
    let grown = ap (λ (es : List AnEntry). length es) c.push_reserved.ensures.items ∙
    length-append entries (c.args.entry ∷ []) in (
      rw (put, grown) (kept_with_entry (length c.self.inside.rows.items) (length entries) slots c.self.invariant.0),
      c.self.invariant.1,
    )
