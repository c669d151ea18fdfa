use Rattle.std.specs.Prelude.{replicate, true}
use Rattle.test_cluster.proofs.tests.spreads.shared_by.Given as goal

abbrev pub ghosts-shared_at-L-Ledger : goal.ghosts-shared_at-L-Ledger
ghosts-shared_at-L-Ledger g a = record { name = a.blank.name; parts = 1 }

abbrev pub ghosts-shared_at-L-Label : goal.ghosts-shared_at-L-Label
ghosts-shared_at-L-Label g a = record { config = record { node = 0; nodes = 2; trace_cap = 100 }; seed = replicate 32 0; keeps = true }
