use Rattle.std.proofs.Common.{sym, ◌∙◌}
use Rattle.uses.proofs.message_format_caller.written_again.Goals as goal

pub returns : goal.returns
returns c = c.in_ok-written.ensures ∙ sym c.in_ok-message.ensures.found.1
