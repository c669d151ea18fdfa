use Rattle.std.proofs.Common.{[], ◌∷◌, length, refl}
use Rattle.std.proofs.lemmas.Option.{slice_get_past, slice_get_read}
use Rattle.node_calls.specs.Told.{told}
use Rattle.drills.proofs.Parts.{none_behind, put_behind}
use Rattle.drills.proofs.so_far.push_entry.Goals as goal

pub returns-in_default : goal.returns-in_default
returns-in_default c =
    none_behind (λ trace. trace.calls) c.args.traces.now.items c.args.node (told c.args.entry ∷ [])
    (slice_get_past c.args.traces.now.items c.args.node c.in_default.ensures.item.3)

pub returns : goal.returns
returns c =
    put_behind (λ trace. trace.calls) c.args.traces.now.items c.args.node c.in-Some.trace.now c.add_entry.new.trace
    (told c.args.entry ∷ [])
    (slice_get_read c.args.traces.now.items (length c.args.traces.now.items) c.args.node c.in-Some.trace.now refl
    c.in-Some.ensures.item.3.0 c.in-Some.ensures.value)
    c.in_ok-add_entry.ensures
