use Rattle.std.proofs.Common.{rules}
use Rattle.actions.proofs.task.Task.copied.Goals as goal

pub returns-in_ok-copied_text-in-Print : goal.returns-in_ok-copied_text-in-Print
returns-in_ok-copied_text-in-Print c = search rules
