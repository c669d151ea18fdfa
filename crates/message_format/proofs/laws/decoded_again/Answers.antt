use Rattle.std.proofs.Common.{refl}
use Rattle.message_format.specs.Spelling.{message_bytes}
use Rattle.message_format.proofs.MessageLemmas.{message_again}
use Rattle.message_format.proofs.laws.decoded_again.Goals as goal

pub returns : goal.returns
returns c = λ nodes m h short. message_again nodes (message_bytes m) m (h, refl, short)
