use Rattle.cluster_model.proofs.WorldClauses.{no_bytes}
use Rattle.cluster_model.proofs.world.World.call.Goals as goal

pub returns-in-Deliver-clause-answer : goal.returns-in-Deliver-clause-answer
returns-in-Deliver-clause-answer c =
    rw c.in-Deliver.is (no_bytes c.args.self.now c.args.node c.requires c.in-Deliver.message.now c.args.words.now)
