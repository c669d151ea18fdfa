use Rattle.std.specs.Prelude.{replicate, true}
use Rattle.test_cluster.proofs.tests.any_wire.round_by.Given as goal

abbrev pub ghosts-round_at-L-Ledger : goal.ghosts-round_at-L-Ledger
ghosts-round_at-L-Ledger g a = record { name = a.blank.name; parts = 1 }

abbrev pub ghosts-round_at-L-Label : goal.ghosts-round_at-L-Label
ghosts-round_at-L-Label g a = record { config = record { node = 0; nodes = 3; trace_cap = 100 }; seed = replicate 32 0; keeps = true }
