use Rattle.std.proofs.Common.{◌≡◌, ◌≤◌, ◌*◌, ◌^◌, take, length}
use Rattle.std.specs.List.{sum_by}
use Rattle.thread_scripts.proofs.played.Played.calls.Given as goal

abbrev pub invariant-loop-trace : goal.invariant-loop-trace
invariant-loop-trace l = record {
  so_far : l.calls ≡ sum_by (λ trace. length trace.calls) (take l.trace-index l.self.traces.items);
  few : l.calls ≤ l.trace-index * 2 ^ 64;
}
