use Rattle.std.proofs.Common.{◌≡◌, None, rules}
use Rattle.thread_scripts.proofs.NodeLists.{of_both, of_workers}
use Rattle.thread_scripts.proofs.nodes.make_calls_beside.Goals as goal

pub returns-in_default-clause-calls : goal.returns-in_default-clause-calls
returns-in_default-clause-calls g c =
    let none : c.args.gossip ≡ None = search rules in
    rw none (of_workers g.L.Label.config g.L.Label.seed _ g.L.Waiting.waits c.in_ok-worked.worked.lists.items
    c.args.finished.lists.items _ _ _ (rw c.deref.ensures.value at c.in_ok-worked.ensures.calls)
    c.in_ok-with_all.ensures.lists c.in_ok-vain.ensures)

pub returns-clause-calls : goal.returns-clause-calls
returns-clause-calls g c =
    let gossip = c.in-Some.gossip in
    let both = c.in_ok-worked-2.field-0 in
    rw c.in-Some.is (of_both g.L.Label.config g.L.Label.seed _ (gossip.wire, gossip.rounds) both.gossiped.wire
    g.L.Waiting.waits c.in_ok-receipts.receipts both.worked.lists.items c.args.finished.lists.items
    c.in_ok-finished.finished.lists.items _ _ _ (rw c.deref-2.ensures.value at c.in_ok-worked-2.ensures.calls)
    c.in_ok-finished.ensures.lists c.in_ok-with.ensures.lists
    (rw c.in_ok-receipts.was at c.in_ok-worked-2.ensures.gossiped)
    (rw c.deref-3.ensures.value at c.in_ok-vain-2.ensures))
