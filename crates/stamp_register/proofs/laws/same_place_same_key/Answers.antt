use Rattle.stamp_register.proofs.KeyLemmas.{same_key-true, true-same_key}
use Rattle.stamp_register.proofs.laws.same_place_same_key.Goals as goal

pub returns : goal.returns
returns c = λ a b. (same_key-true a b, true-same_key a b)
