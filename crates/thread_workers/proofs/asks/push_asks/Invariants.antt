use Rattle.std.proofs.Common.{◌≡◌, ◌+◌, ◌++◌, map, vec_len}
use Rattle.std.specs.Prelude.{replicate}
use Rattle.node_calls.specs.Told.{ask_ref_told, ask_told}
use Rattle.thread_workers.proofs.asks.push_asks.Given as goal

abbrev pub invariant-loop-time : goal.invariant-loop-time
invariant-loop-time l = record {
  len : vec_len l.asks ≡ vec_len l.initial.asks + l._time;
  told : map ask_told l.asks.items ≡ map ask_told l.initial.asks.items
      ++ replicate l._time (ask_ref_told l.line.call);
}
