use Rattle.std.proofs.Common.{◌≡◌, ◌++◌, ◌∷◌, ◌∙◌, [], Bool, Option, Some, cond, nat_lt, ap, sym, map, true, false}
use Rattle.std.proofs.lemmas.List.{append-nil, map-append}
use Rattle.std.specs.Prelude.{◌||◌}
use Rattle.replica_state.specs.Stored.{reader_held}
use Rattle.stamp_register.specs.Keys.{key_value}
use Rattle.message_format.specs.Messages.{entry_value}
use Rattle.message_format.proofs.Lists.{all_and_one}
use Rattle.delta_exchange.specs.Cells.{EntryFits}
use Rattle.delta_exchange.specs.Since.{entry_told, entry_under, tells_cells}
use Rattle.delta_exchange.proofs.since.push_entry_since.Goals as goal

pub returns-else-is_told-clause-entries : goal.returns-else-is_told-clause-entries
returns-else-is_told-clause-entries g c =
    let h = reader_held g.S.Stored.held c.args.held in
    let entry = c.in_ok-entry.entry in
    let keyed : h.key ≡ Some (key_value c.in-Some.key.now) = sym c.in-Some.ensures in
    let untold : (nat_lt c.args.base c.args.marks.now.key || tells_cells (entry_value entry)) ≡ false =
    sym c.is_told.ensures ∙ c.if-is_told.false in
    let none : entry_under h c.args.name.now h.key c.args.base c.args.marks.now ≡ [] =
    ap (λ (key : Option _). entry_under h c.args.name.now key c.args.base c.args.marks.now) keyed
    ∙ sym (ap (λ e. entry_told c.args.base c.args.marks.now e) c.in_ok-entry.ensures.entry)
    ∙ ap (λ (b : Bool). cond b (entry_value entry ∷ []) []) untold in
    sym (append-nil (map entry_value c.args.entries.now.items))
    ∙ ap (λ es. map entry_value c.args.entries.now.items ++ es) (sym none)

pub returns-in_ok-push-clause-entries : goal.returns-in_ok-push-clause-entries
returns-in_ok-push-clause-entries g c =
    let h = reader_held g.S.Stored.held c.args.held in
    let entry = c.in_ok-entry.entry in
    let keyed : h.key ≡ Some (key_value c.in-Some.key.now) = sym c.in-Some.ensures in
    let is_told : (nat_lt c.args.base c.args.marks.now.key || tells_cells (entry_value entry)) ≡ true =
    sym c.is_told.ensures ∙ c.if-is_told.true in
    let one : entry_under h c.args.name.now h.key c.args.base c.args.marks.now ≡ entry_value entry ∷ [] =
    ap (λ (key : Option _). entry_under h c.args.name.now key c.args.base c.args.marks.now) keyed
    ∙ sym (ap (λ e. entry_told c.args.base c.args.marks.now e) c.in_ok-entry.ensures.entry)
    ∙ ap (λ (b : Bool). cond b (entry_value entry ∷ []) []) is_told in
    ap (map entry_value) c.in_ok-push.ensures.items
    ∙ map-append entry_value c.args.entries.now.items (entry ∷ [])
    ∙ ap (λ es. map entry_value c.args.entries.now.items ++ es) (sym one)

pub returns-in_ok-push-clause-fit : goal.returns-in_ok-push-clause-fit
returns-in_ok-push-clause-fit g c = λ fit.
    rw (c.in_ok-push.ensures.items, map-append entry_value c.args.entries.now.items (c.in_ok-entry.entry ∷ []))
    (all_and_one EntryFits (map entry_value c.args.entries.now.items) (entry_value c.in_ok-entry.entry) fit
    c.in_ok-entry.ensures.fits)
