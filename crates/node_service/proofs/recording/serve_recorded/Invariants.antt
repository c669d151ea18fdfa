use Rattle.std.specs.Prelude.{replicate, false}
use Rattle.node_service.proofs.recording.serve_recorded.Given as goal

abbrev pub ghosts-serve_registry-L-Ledger : goal.ghosts-serve_registry-L-Ledger
ghosts-serve_registry-L-Ledger g a = record { name = a.blank.name; parts = 2 }

abbrev pub ghosts-serve_registry-L-Label : goal.ghosts-serve_registry-L-Label
ghosts-serve_registry-L-Label g a = record { config = a.config; seed = replicate 32 0; keeps = false }
