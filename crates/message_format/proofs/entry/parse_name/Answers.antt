use Rattle.std.proofs.Common.{refl}
use Rattle.message_format.proofs.Texts.{not_name}
use Rattle.message_format.proofs.entry.parse_name.Goals as goal

pub returns-in_default : goal.returns-in_default
returns-in_default c = rw (not_name c.args.bytes.now c.in_default.ensures.cases.0) refl
