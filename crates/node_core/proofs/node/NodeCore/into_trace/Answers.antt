use Rattle.node_core.proofs.VersionsInStep.{kept_told}
use Rattle.node_core.proofs.node.NodeCore.into_trace.Goals as goal

pub returns : goal.returns
returns c =
    kept_told c.self.inside.config c.self.inside.history.calls c.args.self c.into_kept.result.calls c.self.view_is c.into_kept.ensures
