use Rattle.std.specs.Prelude.{replicate, true}
use Rattle.test_cluster.proofs.tests.served.asked_by.Given as goal

abbrev pub ghosts-asked-L-Ledger : goal.ghosts-asked-L-Ledger
ghosts-asked-L-Ledger g a = record { name = a.blank.name; parts = 1 }

abbrev pub ghosts-asked-L-Label : goal.ghosts-asked-L-Label
ghosts-asked-L-Label g a = record { config = record { node = 0; nodes = 2; trace_cap = 100 }; seed = replicate 32 0; keeps = true }
