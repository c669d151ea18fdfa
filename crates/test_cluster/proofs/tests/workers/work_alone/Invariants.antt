use Rattle.std.specs.Prelude.{replicate, true}
use Rattle.test_cluster.proofs.tests.workers.work_alone.Given as goal

abbrev pub ghosts-work-L-Ledger : goal.ghosts-work-L-Ledger
ghosts-work-L-Ledger g a = record { name = a.blank.name; parts = 1 }

abbrev pub ghosts-work-L-Label : goal.ghosts-work-L-Label
ghosts-work-L-Label g a = record { config = record { node = 0; nodes = 2; trace_cap = 100 }; seed = replicate 32 0; keeps = true }
