use Rattle.std.specs.Prelude.{replicate, true}
use Rattle.test_cluster.proofs.tests.any_wire.heard_by.Given as goal

abbrev pub ghosts-heard_at-L-Ledger : goal.ghosts-heard_at-L-Ledger
ghosts-heard_at-L-Ledger g a = record { name = a.blank.name; parts = 1 }

abbrev pub ghosts-heard_at-L-Label : goal.ghosts-heard_at-L-Label
ghosts-heard_at-L-Label g a = record { config = record { node = 1; nodes = 2; trace_cap = 100 }; seed = replicate 32 0; keeps = true }
