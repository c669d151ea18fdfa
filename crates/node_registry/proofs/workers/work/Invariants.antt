use Rattle.std.proofs.Common.{◌≡◌, ◌+◌, ◌≤◌, ◌<◌, ◌^◌, vec_len, vec_capacity}
use Rattle.std.specs.Vec.Iter.{into_iter_items, into_iter_len}
use Rattle.node_registry.specs.Receipts.{AreGivenSince, seat_after}
use Rattle.node_registry.proofs.WorkersLemmas.{SoFar}
use Rattle.node_registry.proofs.workers.work.Given as goal

abbrev pub invariant-loop-ask : goal.invariant-loop-ask
invariant-loop-ask g l =
    let config = g.L.Label.config in
    record {
      few : l.index + into_iter_len l.ask-iterator < 2 ^ 32;
      room : vec_len l.receipts + into_iter_len l.ask-iterator ≤ vec_capacity l.receipts;
      room_for_faults : vec_len l.faults + into_iter_len l.ask-iterator ≤ vec_capacity l.faults;
      counted : l.seat ≡ seat_after l.fn.task.job.seat l.receipts.items;
      given : AreGivenSince config g.L.Label.seed l.fn.task.job.seat l.receipts.items;
      answered : SoFar config g.L.Label.seed (g.G.Gate.says l.gate l.worker) (g.G.Gate.hears l.gate l.worker)
          l.fn.task.job.asks.items
          l.index (into_iter_items l.ask-iterator) l.receipts.items l.faults.items l.refusals;
    }
