use Rattle.std.specs.Prelude.{replicate, true}
use Rattle.test_cluster.proofs.tests.served.round_over_http.Given as goal

abbrev pub ghosts-told_over_http-L-Ledger : goal.ghosts-told_over_http-L-Ledger
ghosts-told_over_http-L-Ledger g a = record { name = a.zero.name; parts = 1 }

abbrev pub ghosts-told_over_http-L-Label : goal.ghosts-told_over_http-L-Label
ghosts-told_over_http-L-Label g a = record { config = record { node = 0; nodes = 2; trace_cap = 100 }; seed = replicate 32 0; keeps = true }

abbrev pub ghosts-told_over_http-M-Ledger : goal.ghosts-told_over_http-M-Ledger
ghosts-told_over_http-M-Ledger g a = record { name = a.one.name; parts = 1 }

abbrev pub ghosts-told_over_http-M-Label : goal.ghosts-told_over_http-M-Label
ghosts-told_over_http-M-Label g a = record { config = record { node = 1; nodes = 2; trace_cap = 100 }; seed = replicate 32 0; keeps = true }
