use Rattle.std.proofs.Common.{rules}
use Rattle.scripts.proofs.reply.refusal_of.Goals as goal

pub returns-in-Refused-OutOfMemory-clause-any : goal.returns-in-Refused-OutOfMemory-clause-any
returns-in-Refused-OutOfMemory-clause-any c = search rules
