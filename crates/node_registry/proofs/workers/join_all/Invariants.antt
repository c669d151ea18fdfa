use Rattle.std.proofs.Common.{◌≡◌, ◌+◌, ◌≤◌, ◌++◌, vec_len, vec_capacity}
use Rattle.std.specs.Prelude.{MatchResult}
use Rattle.std.specs.List.{AllZip}
use Rattle.std.specs.Vec.Iter.{into_iter_items, into_iter_len}
use Rattle.node_registry.specs.Workers.{IsDone}
use Rattle.node_registry.proofs.workers.join_all.Given as goal

abbrev pub invariant-loop-worker : goal.invariant-loop-worker
invariant-loop-worker g l =
    let says = g.G.Gate.says in
    let hears = g.G.Gate.hears in
    record {
      room : vec_len l.dones + into_iter_len l.worker-iterator ≤ vec_capacity l.dones;
      each : (rest : _)
          → AllZip (λ w d. MatchResult w (λ h. IsDone g.L.Label.config g.L.Label.seed
          (says h.promise.gate.value h.promise.worker) (hears h.promise.gate.value h.promise.worker) h.promise.was.value
          h.promise.asks.value.items d) (λ e. d ≡ e)) (into_iter_items l.worker-iterator) rest
          → AllZip (λ w d. MatchResult w (λ h. IsDone g.L.Label.config g.L.Label.seed
          (says h.promise.gate.value h.promise.worker) (hears h.promise.gate.value h.promise.worker) h.promise.was.value
          h.promise.asks.value.items d) (λ e. d ≡ e)) l.fn.workers.items (l.dones.items ++ rest);
    }
