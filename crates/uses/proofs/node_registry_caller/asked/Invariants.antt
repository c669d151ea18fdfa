use Rattle.std.specs.Prelude.{replicate, true}
use Rattle.uses.proofs.node_registry_caller.asked.Given as goal

abbrev pub ghosts-asked_by-L-Ledger : goal.ghosts-asked_by-L-Ledger
ghosts-asked_by-L-Ledger g a = record { name = a.blank.name; parts = 1 }

abbrev pub ghosts-asked_by-L-Label : goal.ghosts-asked_by-L-Label
ghosts-asked_by-L-Label g a = record { config = a.config; seed = replicate 32 0; keeps = true }
