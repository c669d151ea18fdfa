use Rattle.std.proofs.Common.{◌≡◌, ◌+◌, ◌≤◌, map, vec_len, vec_capacity}
use Rattle.std.specs.Prelude.{option_map}
use Rattle.std.specs.List.{range_with_len}
use Rattle.std.specs.Vec.Iter.{into_iter_items, into_iter_len}
use Rattle.gossip.specs.Mailboxes.{new_place}
use Rattle.thread_plans.specs.Plans.{plan_value}
use Rattle.thread_scripts.specs.Plays.{AllFrom, config_at, gossip_at}
use Rattle.thread_scripts.proofs.played.jobs_of.Given as goal

abbrev pub invariant-loop-wire : goal.invariant-loop-wire
invariant-loop-wire l = record {
  len : vec_len l.jobs + into_iter_len l.wire-iterator ≡ l.nodes;
  room : l.nodes ≤ vec_capacity l.jobs;
  wires : into_iter_items l.wire-iterator ≡ map (new_place l.nodes)
      (range_with_len (vec_len l.jobs) (into_iter_len l.wire-iterator));
  each : AllFrom (λ node job. (job.config ≡ config_at (plan_value l.plan) node)
      × (option_map (λ g. (g.wire, g.rounds)) job.gossip ≡ gossip_at (plan_value l.plan) node)) 0 l.jobs.items;
}
