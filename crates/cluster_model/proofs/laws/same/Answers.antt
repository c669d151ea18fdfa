use Rattle.std.proofs.Common.{sym, ◌∙◌}
use Rattle.replica_state.proofs.KnownSets.{same_fold, same_members, union_above_left, union_above_right, union_least}
use Rattle.cluster_model.proofs.Replays.{delivery_is_least}
use Rattle.cluster_model.proofs.Steps.{state_is_fold}
use Rattle.cluster_model.proofs.laws.same.Goals as goal

pub returns-clause-state : goal.returns-clause-state
returns-clause-state c = state_is_fold

pub returns-clause-order : goal.returns-clause-order
returns-clause-order r c d es fs i j h = state_is_fold c es i ∙ same_members _ _ (λ op. (h op).0) (λ op. (h op).1) ∙
    sym (state_is_fold d fs j)

pub returns-clause-known : goal.returns-clause-known
returns-clause-known r c d es fs i j h k = state_is_fold c es i ∙ same_fold _ _ h k ∙ sym (state_is_fold d fs j)

pub returns-clause-least : goal.returns-clause-least
returns-clause-least r a b = (union_above_left a b, union_above_right a b, union_least a b)

pub returns-clause-delivery : goal.returns-clause-delivery
returns-clause-delivery c = delivery_is_least
