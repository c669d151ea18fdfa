use Rattle.node_steps.proofs.SettingNames.{points_named}
use Rattle.node_steps.proofs.load.read_points.Goals as goal

pub returns-in-Ok-clause-named : goal.returns-in-Ok-clause-named
returns-in-Ok-clause-named c = points_named c.args.text.now _ c.in-Ok.ensures.found
