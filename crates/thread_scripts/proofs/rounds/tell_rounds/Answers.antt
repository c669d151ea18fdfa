use Rattle.std.proofs.Common.{refl, rules}
use Rattle.thread_scripts.proofs.StartLines.{done_of}
use Rattle.thread_scripts.proofs.rounds.tell_rounds.Goals as goal

pub returns-clause-told : goal.returns-clause-told
returns-clause-told g c =
    let report = c.gossip_rounds-report.result in
    let told = c.gossip_rounds-report.ensures in
    (report, refl, done_of report.ended (search rules), (told.carried, told.few))
