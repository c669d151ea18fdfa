use Rattle.std.specs.Prelude.{replicate, true}
use Rattle.test_cluster.proofs.tests.batches.batch_of_a_node_under_a_lock.Given as goal

abbrev pub ghosts-expect_under-L-Ledger : goal.ghosts-expect_under-L-Ledger
ghosts-expect_under-L-Ledger g a = record { name = a.blank.name; parts = 1 }

abbrev pub ghosts-expect_under-L-Label : goal.ghosts-expect_under-L-Label
ghosts-expect_under-L-Label g a = record { config = record { node = 1; nodes = 2; trace_cap = 100 }; seed = replicate 32 0; keeps = true }
