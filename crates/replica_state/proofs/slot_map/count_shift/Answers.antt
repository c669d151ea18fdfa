use Rattle.std.proofs.Common.{◌∙◌}
use Rattle.replica_state.specs.Slots.{shown_slots}
use Rattle.replica_state.proofs.Learned.{on_ok}
use Rattle.replica_state.proofs.Shown.{shift_seen}
use Rattle.replica_state.proofs.slot_map.count_shift.Goals as goal

pub returns-clause-ok : goal.returns-clause-ok
returns-clause-ok c =
    let counted = rw c.times.ensures at c.count.ensures.ok in
    on_ok c.count.result (λ e. e ∙ shift_seen c.args.name.now c.args.term c.args.from c.args.to c.args.total
    (shown_slots c.args.slots.now) c.requires.more c.count.ensures.named) counted
