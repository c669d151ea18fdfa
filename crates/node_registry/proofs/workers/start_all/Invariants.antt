use Rattle.std.proofs.Common.{◌≡◌, ◌+◌, ◌≤◌, ◌++◌, vec_len, vec_capacity}
use Rattle.std.specs.Prelude.{reverse, MatchResult}
use Rattle.node_registry.specs.Workers.{AllNumbered, IsDone}
use Rattle.node_registry.proofs.workers.start_all.Given as goal

abbrev pub invariant-loop-task : goal.invariant-loop-task
invariant-loop-task g l =
    let says = g.G.Gate.says l.gate in
    let hears = g.G.Gate.hears l.gate in
    record {
      room : vec_len l.workers + vec_len l.tasks ≤ vec_capacity l.workers;
      count : vec_len l.workers + vec_len l.tasks ≡ vec_len l.fn.tasks;
      number : l.number + vec_len l.tasks ≤ 65536;
      each : (rest : _)
          → AllNumbered (λ n t w. MatchResult w (λ h. (h.promise.worker ≡ n) × (h.promise.gate.value ≡ l.gate) ×
          (h.promise.was.value ≡ t.job.seat) × (h.promise.asks.value.items ≡ t.job.asks.items))
          (λ d. IsDone g.L.Label.config g.L.Label.seed (says n) (hears n) t.job.seat t.job.asks.items d)) l.number
          (reverse l.tasks.items) rest
          → AllNumbered (λ n t w. MatchResult w (λ h. (h.promise.worker ≡ n) × (h.promise.gate.value ≡ l.gate) ×
          (h.promise.was.value ≡ t.job.seat) × (h.promise.asks.value.items ≡ t.job.asks.items))
          (λ d. IsDone g.L.Label.config g.L.Label.seed (says n) (hears n) t.job.seat t.job.asks.items d)) 0
          (reverse l.fn.tasks.items) (l.workers.items ++ rest);
    }

abbrev pub decreases-loop-task : goal.decreases-loop-task
decreases-loop-task g l = vec_len l.tasks
