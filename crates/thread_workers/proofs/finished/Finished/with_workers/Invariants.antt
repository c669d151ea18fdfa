use Rattle.std.proofs.Common.{◌≡◌, ◌+◌, ◌++◌, map, vec_len, false}
use Rattle.std.specs.Prelude.{All}
use Rattle.std.specs.Vec.Iter.{into_iter_items, into_iter_len}
use Rattle.node_registry.specs.Receipts.{AreGivenSince}
use Rattle.node_registry.specs.Seats.{new_seat}
use Rattle.thread_workers.specs.Calls.{lack_memory}
use Rattle.thread_workers.specs.Workers.{AreListsAt}
use Rattle.thread_workers.proofs.finished.Finished.with_workers.Given as goal

abbrev pub invariant-loop-done : goal.invariant-loop-done
invariant-loop-done g l = record {
  len : vec_len l.finished.seats + into_iter_len l.done-iterator ≡ vec_len l.fn.self.seats + vec_len l.fn.dones;
  counted : All (λ d. d.seat.calls ≡ vec_len d.receipts) (into_iter_items l.done-iterator);
  given : AreListsAt g.L.Label.config g.L.Label.seed l.finished.lists.items;
  more : All (λ d. AreGivenSince g.L.Label.config g.L.Label.seed new_seat d.receipts.items)
      (into_iter_items l.done-iterator);
  lists : l.finished.lists.items ++ map (λ d. d.receipts) (into_iter_items l.done-iterator) ≡ l.fn.self.lists.items ++
      map (λ d. d.receipts) l.fn.dones.items;
  memory : All (λ d. lack_memory d.faults.items ≡ false) (into_iter_items l.done-iterator)
      → All (λ d. lack_memory d.faults.items ≡ false) l.fn.dones.items;
}
