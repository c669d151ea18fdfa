use Rattle.std.proofs.Common.{◌≡◌, ◌+◌, ◌<◌, ◌^◌, map, take, vec_len}
use Rattle.std.specs.Prelude.{◌==◌, All, count_by}
use Rattle.std.specs.List.{filter}
use Rattle.node_calls.specs.Told.{ask_told}
use Rattle.node_registry.specs.Seats.{new_seat}
use Rattle.thread_plans.specs.Plans.{block_value}
use Rattle.thread_workers.specs.Asks.{asks_of_block}
use Rattle.thread_workers.proofs.asks.jobs_of.Given as goal

abbrev pub invariant-loop-block : goal.invariant-loop-block
invariant-loop-block g l = record {
  len : vec_len l.jobs ≡ count_by (λ b. b.node == l.node) (take l.block-index l.blocks);
  seats : vec_len l.seats + count_by (λ b. b.node == l.node) (take l.block-index l.blocks) ≡ vec_len l.fn.seats;
  few : All (λ j. vec_len j.asks < 2 ^ 32) l.jobs.items;
  fresh : All (λ j. j.seat ≡ new_seat) l.jobs.items;
  fresh_seats : All (λ seat. seat ≡ new_seat) l.seats.items;
  asks : map (λ j. map ask_told j.asks.items) l.jobs.items ≡ map asks_of_block
      (filter (λ b. b.node == l.node) (take l.block-index (map block_value l.blocks)));
}
