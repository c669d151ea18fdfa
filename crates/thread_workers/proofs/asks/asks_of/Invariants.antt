use Rattle.std.proofs.Common.{◌≡◌, map, take, vec_len}
use Rattle.std.specs.List.{flat_map, sum_by}
use Rattle.node_calls.specs.Told.{ask_told}
use Rattle.thread_plans.specs.Plans.{call_line_value}
use Rattle.thread_workers.specs.Asks.{asks_of_line}
use Rattle.thread_workers.proofs.asks.asks_of.Given as goal

abbrev pub invariant-loop-line : goal.invariant-loop-line
invariant-loop-line l = record {
  len : vec_len l.asks ≡ sum_by (λ x. x.times) (take l.line-index l.block.lines.items);
  told : map ask_told l.asks.items ≡ flat_map asks_of_line (take l.line-index
      (map call_line_value l.block.lines.items));
}
