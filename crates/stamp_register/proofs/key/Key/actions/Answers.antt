use Rattle.std.proofs.Common.{rules}
use Rattle.stamp_register.specs.Keys.{terms_in_text}
use Rattle.stamp_register.proofs.key.Key.actions.Goals as goal

pub returns-in-Set : goal.returns-in-Set
unfolding terms_in_text
returns-in-Set c = search rules
