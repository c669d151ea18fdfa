use Rattle.std.specs.Prelude.{true}
use Rattle.test_cluster.specs.declared.tests.draws.TheConstants.{SEED}
use Rattle.test_cluster.proofs.tests.draws.draws_of_a_node_under_a_lock.Given as goal

abbrev pub ghosts-expect_under-L-Ledger : goal.ghosts-expect_under-L-Ledger
ghosts-expect_under-L-Ledger g a = record { name = a.blank.name; parts = 1 }

abbrev pub ghosts-expect_under-L-Label : goal.ghosts-expect_under-L-Label
ghosts-expect_under-L-Label g a = record { config = a.config; seed = SEED; keeps = true }
