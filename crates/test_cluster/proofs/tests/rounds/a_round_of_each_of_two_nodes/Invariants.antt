use Rattle.std.specs.Prelude.{replicate, true}
use Rattle.test_cluster.proofs.tests.rounds.a_round_of_each_of_two_nodes.Given as goal

abbrev pub ghosts-round_by_mail-L-Ledger : goal.ghosts-round_by_mail-L-Ledger
ghosts-round_by_mail-L-Ledger g a = record { name = a.zero.name; parts = 1 }

abbrev pub ghosts-round_by_mail-L-Label : goal.ghosts-round_by_mail-L-Label
ghosts-round_by_mail-L-Label g a = record { config = record { node = 0; nodes = 2; trace_cap = 100 }; seed = replicate 32 0; keeps = true }

abbrev pub ghosts-round_by_mail-M-Ledger : goal.ghosts-round_by_mail-M-Ledger
ghosts-round_by_mail-M-Ledger g a = record { name = a.one.name; parts = 1 }

abbrev pub ghosts-round_by_mail-M-Label : goal.ghosts-round_by_mail-M-Label
ghosts-round_by_mail-M-Label g a = record { config = record { node = 1; nodes = 2; trace_cap = 100 }; seed = replicate 32 0; keeps = true }
