use Rattle.node_core.proofs.VersionsInStep.{kept_told}
use Rattle.node_core.proofs.node.NodeCore.trace.Goals as goal

pub returns : goal.returns
returns c =
    kept_told c.self.inside.config c.self.inside.history.calls c.args.self.now c.kept.result.now.calls c.self.view_is c.kept.ensures
