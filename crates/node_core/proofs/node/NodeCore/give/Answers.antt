use Rattle.node_core.proofs.VersionsInStep.{kept_told}
use Rattle.node_core.proofs.node.NodeCore.give.Goals as goal

pub returns-clause-those : goal.returns-clause-those
returns-clause-those c =
    kept_told c.self.inside.config c.self.inside.history.calls c.args.self.now c.give.result.calls c.self.view_is c.give.ensures.those
