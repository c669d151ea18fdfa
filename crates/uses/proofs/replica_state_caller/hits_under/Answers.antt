use Rattle.std.proofs.Common.{ap, ◌∙◌}
use Rattle.replica_state.specs.States.{total_hits, with_key}
use Rattle.uses.proofs.replica_state_caller.hits_under.Goals as goal

pub returns-clause-hits : goal.returns-clause-hits
unfolding with_key
returns-clause-hits g c = c.total_hits.ensures ∙ ap (λ s. total_hits s c.args.name.now) c.in_ok-set_key.ensures.ok
