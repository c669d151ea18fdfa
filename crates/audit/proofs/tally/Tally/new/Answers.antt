use Rattle.audit.proofs.NotedAll.{tallied_none}
use Rattle.audit.proofs.tally.Tally.new.Goals as goal

pub returns : goal.returns
returns c = λ nodes traces.
    tallied_none (record { counts = c.new.result; granted = c.new-2.result; executed = c.new-3.result }) c.new.ensures
    c.new-2.ensures c.new-3.ensures nodes traces
