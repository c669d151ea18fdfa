use Rattle.std.proofs.Common.{◌≡◌, ◌+◌, ◌<◌, ◌^◌, vec_len}
use Rattle.std.specs.Prelude.{All}
use Rattle.test_cluster.proofs.tests.workers.jobs_of.Given as goal

abbrev pub invariant-loop-seat : goal.invariant-loop-seat
invariant-loop-seat g l = record {
  len : vec_len l.jobs + vec_len l.seats ≡ vec_len l.fn.seats;
  few : All (λ job. vec_len job.asks < 2 ^ 32) l.jobs.items;
}

abbrev pub decreases-loop-seat : goal.decreases-loop-seat
decreases-loop-seat g l = vec_len l.seats
