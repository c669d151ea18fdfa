use Rattle.std.proofs.Common.{◌≡◌, ◌≤◌, ◌∙◌, ◌++◌, ◌∷◌, [], List, length, length-append, map, ap, arith, rules, sym, true≢false}
use Rattle.std.proofs.lemmas.List.{length-map, map-append}
use Rattle.node_calls.specs.Told.{told}
use Rattle.packed_trace.specs.declared.row.Row.{Row}
use Rattle.packed_trace.specs.Packed.{Packed, RowTold, row_told, told_by}
use Rattle.packed_trace.proofs.Stays.{kept_more, rows_stay}
use Rattle.packed_trace.proofs.LastRows.{heads_more}
use Rattle.packed_trace.proofs.trace.Trace.add_row.Goals as goal

pub returns-clause-calls : goal.returns-clause-calls
returns-clause-calls c =
    let rows = c.self.inside.rows.items in
    let entries = c.self.inside.entries.items in
    let slots = c.self.inside.slots.items in
    ap (λ (rs : List Row). map (told_by (map row_told rs) (map told entries)) slots)
    (c.push_reserved.ensures.items ∙ ap (λ (rs : List Row). rs ++ c.args.row ∷ []) c.in_ok-make_head.ensures.items) ∙
    rows_stay rows entries c.args.row slots c.self.invariant.0 ∙
    ap (λ (p : Packed). p.calls) c.self.view_is

pub invariant_of-self-2 : goal.invariant_of-self-2
invariant_of-self-2 c =
    let rows = c.self.inside.rows.items in
    let grown = c.push_reserved.ensures.items ∙ ap (λ (rs : List Row). rs ++ c.args.row ∷ []) c.in_ok-make_head.ensures.items in
    let at : c.len-at.result ≡ length rows = search rules in
    let more = length-append rows (c.args.row ∷ []) in
    let longer : length rows ≤ length (rows ++ c.args.row ∷ []) = omega (arith, more) in
    let named = c.in_ok-make_head.ensures.ok in (
      rw grown (kept_more (length rows) (length (rows ++ c.args.row ∷ [])) (length c.self.inside.entries.items)
          c.self.inside.slots.items longer c.self.invariant.0),
      rw grown (heads_more c.self.inside.heads c.make_head.new.heads rows c.args.row c.len-at.result at c.self.invariant.1 named),
    )

pub returns-clause-ok : goal.returns-clause-ok
returns-clause-ok c =
    let rows = c.self.inside.rows.items in
    let same = ap (λ (p : Packed). p.rows) c.self.view_is in
    let grown = c.push_reserved.ensures.items ∙ ap (λ (rs : List Row). rs ++ c.args.row ∷ []) c.in_ok-make_head.ensures.items in
    let at : c.len-at.result ≡ length rows = search rules in (
      at ∙ sym (length-map rows row_told) ∙ ap length same,
      ap (map row_told) grown ∙ map-append row_told rows (c.args.row ∷ []) ∙
          ap (λ (rs : List RowTold). rs ++ row_told c.args.row ∷ []) same,
    )

pub returns-clause-full : goal.returns-clause-full
returns-clause-full c = λ none. absurd (true≢false none)

pub returns-clause-room : goal.returns-clause-room
returns-clause-room c =
    (ap (λ (p : Packed). p.pass_room) c.self.view_is, ap (λ (p : Packed). p.entry_room) c.self.view_is)

pub returns-clause-err : goal.returns-clause-err
returns-clause-err c = tt
