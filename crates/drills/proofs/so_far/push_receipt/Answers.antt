use Rattle.std.proofs.Common.{[], ◌∷◌, length, map, refl, ap, ◌∙◌}
use Rattle.std.proofs.lemmas.Option.{slice_get_past, slice_get_read}
use Rattle.std.proofs.lemmas.List.{map-append}
use Rattle.drills.specs.Lines.{receipt_told}
use Rattle.drills.proofs.Parts.{none_behind, put_behind}
use Rattle.drills.proofs.so_far.push_receipt.Goals as goal

pub returns-in_default : goal.returns-in_default
returns-in_default c =
    none_behind (λ list. map receipt_told list.items) c.args.lists.now.items c.args.number
    (receipt_told c.args.receipt ∷ [])
    (slice_get_past c.args.lists.now.items c.args.number c.in_default.ensures.item.3)

pub returns : goal.returns
returns c =
    let grown = ap (map receipt_told) c.in_ok-push.ensures.items ∙
    map-append receipt_told c.in-Some.list.now.items (c.args.receipt ∷ []) in
    put_behind (λ list. map receipt_told list.items) c.args.lists.now.items c.args.number c.in-Some.list.now
    c.push.new.self (receipt_told c.args.receipt ∷ [])
    (slice_get_read c.args.lists.now.items (length c.args.lists.now.items) c.args.number c.in-Some.list.now refl
    c.in-Some.ensures.item.3.0 c.in-Some.ensures.value)
    grown
