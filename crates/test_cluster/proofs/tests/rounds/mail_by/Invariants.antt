use Rattle.std.specs.Prelude.{replicate, true}
use Rattle.test_cluster.proofs.tests.rounds.mail_by.Given as goal

abbrev pub ghosts-mail-L-Ledger : goal.ghosts-mail-L-Ledger
ghosts-mail-L-Ledger g a = record { name = a.zero.name; parts = 1 }

abbrev pub ghosts-mail-L-Label : goal.ghosts-mail-L-Label
ghosts-mail-L-Label g a = record { config = record { node = 0; nodes = 2; trace_cap = 100 }; seed = replicate 32 0; keeps = true }

abbrev pub ghosts-mail-M-Ledger : goal.ghosts-mail-M-Ledger
ghosts-mail-M-Ledger g a = record { name = a.one.name; parts = 1 }

abbrev pub ghosts-mail-M-Label : goal.ghosts-mail-M-Label
ghosts-mail-M-Label g a = record { config = record { node = 1; nodes = 2; trace_cap = 100 }; seed = replicate 32 0; keeps = true }
