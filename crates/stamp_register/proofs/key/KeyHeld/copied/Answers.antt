use Rattle.actions.proofs.Copies.{copy_ties}
use Rattle.stamp_register.specs.Keys.{key_rank, key_value}
use Rattle.stamp_register.proofs.key.KeyHeld.copied.Goals as goal

pub returns : goal.returns
returns c = copy_ties key_value key_rank c.copied.result c.args.self.now c.copied.ensures
