use Rattle.std.specs.Prelude.{replicate, true}
use Rattle.test_cluster.proofs.tests.registry.passes_are_answered_while_another_node_is_looked_at.Given as goal

abbrev pub ghosts-two_locks-L-Ledger : goal.ghosts-two_locks-L-Ledger
ghosts-two_locks-L-Ledger g a = record { name = a.zero.name; parts = 1 }

abbrev pub ghosts-two_locks-L-Label : goal.ghosts-two_locks-L-Label
ghosts-two_locks-L-Label g a = record { config = record { node = 0; nodes = 2; trace_cap = 100 }; seed = replicate 32 0; keeps = true }

abbrev pub ghosts-two_locks-M-Ledger : goal.ghosts-two_locks-M-Ledger
ghosts-two_locks-M-Ledger g a = record { name = a.one.name; parts = 1 }

abbrev pub ghosts-two_locks-M-Label : goal.ghosts-two_locks-M-Label
ghosts-two_locks-M-Label g a = record { config = record { node = 1; nodes = 2; trace_cap = 100 }; seed = replicate 32 0; keeps = true }
