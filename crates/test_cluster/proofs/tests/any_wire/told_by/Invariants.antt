use Rattle.std.specs.Prelude.{replicate, true}
use Rattle.test_cluster.proofs.tests.any_wire.told_by.Given as goal

abbrev pub ghosts-told_at-L-Ledger : goal.ghosts-told_at-L-Ledger
ghosts-told_at-L-Ledger g a = record { name = a.blank.name; parts = 1 }

abbrev pub ghosts-told_at-L-Label : goal.ghosts-told_at-L-Label
ghosts-told_at-L-Label g a = record { config = record { node = 1; nodes = 2; trace_cap = 100 }; seed = replicate 32 0; keeps = true }
