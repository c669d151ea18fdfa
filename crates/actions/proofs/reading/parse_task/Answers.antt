use Rattle.actions.proofs.TermLemmas.{unknown}
use Rattle.actions.proofs.reading.parse_task.Goals as goal

pub returns-in_default : goal.returns-in_default
returns-in_default c =
    let n = c.in_default in
    unknown c.args.term c.args.word.now _ n.not-empty n.not-off n.not-return n.not-sleep n.not-panic n.not-print
    n.not-pause n.not-yield n.not-delay
