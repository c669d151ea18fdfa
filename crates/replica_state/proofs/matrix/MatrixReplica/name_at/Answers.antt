use Rattle.std.proofs.Common.{ap, sym, ◌∙◌}
use Rattle.std.specs.Option.{option_map}
use Rattle.replica_state.specs.Slots.{shown_slots}
use Rattle.replica_state.specs.MatrixStates.{matrix_state}
use Rattle.replica_state.proofs.Slots.{key_place}
use Rattle.replica_state.proofs.matrix.MatrixReplica.name_at.Goals as goal

pub returns : goal.returns
unfolding matrix_state shown_slots
returns c = ap (λ o. option_map (λ e. e.0) o) (sym (ap (λ o. option_map (λ e. (e.0.now, e.1.now)) o) c.in_ok-name.was) ∙
    c.at.ensures) ∙ sym (key_place c.args.self.now.slots c.args.index)
