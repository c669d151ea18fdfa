use Rattle.std.specs.Prelude.{true}
use Rattle.test_cluster.specs.declared.tests.draws.TheConstants.{SEED}
use Rattle.test_cluster.proofs.tests.draws.expect_of_registry.Given as goal

abbrev pub ghosts-expect_behind-L-Ledger : goal.ghosts-expect_behind-L-Ledger
ghosts-expect_behind-L-Ledger g a = record { name = a.blank.name; parts = 1 }

abbrev pub ghosts-expect_behind-L-Label : goal.ghosts-expect_behind-L-Label
ghosts-expect_behind-L-Label g a = record { config = a.config; seed = SEED; keeps = true }
