use Rattle.std.specs.Prelude.{replicate, true}
use Rattle.test_cluster.proofs.tests.rounds.tried_by.Given as goal

abbrev pub ghosts-tried_in-L-Ledger : goal.ghosts-tried_in-L-Ledger
ghosts-tried_in-L-Ledger g a = record { name = a.blank.name; parts = 1 }

abbrev pub ghosts-tried_in-L-Label : goal.ghosts-tried_in-L-Label
ghosts-tried_in-L-Label g a = record { config = record { node = 0; nodes = 2; trace_cap = 100 }; seed = replicate 32 0; keeps = true }
