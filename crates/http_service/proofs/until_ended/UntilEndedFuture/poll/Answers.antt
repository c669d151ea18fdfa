use Rattle.std.proofs.Common.{◌∙◌, sym}
use Rattle.http_service.proofs.Endings.{same_wanted}
use Rattle.http_service.proofs.until_ended.UntilEndedFuture.poll.Goals as goal

pub returns-in-Pending-clause-again : goal.returns-in-Pending-clause-again
returns-in-Pending-clause-again g c =
    let was = rw (sym c.in-Some.ensures.value) at c.requires in
    let new = c.poll-then-not-is_ended.new.self in
    let old = c.in-Some.accepting in
    let same = same_wanted new.clients.offer old.clients.offer new.wanted old.wanted c.in-Pending.ensures.same in
    let now = c.in-Pending.ensures.again in
    ((now.0, now.1, same.0 ∙ was.0.2, same.1 ∙ was.0.3), was.1, was.2)
