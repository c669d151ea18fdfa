use Rattle.std.specs.Prelude.{replicate, true}
use Rattle.uses.proofs.http_serve_caller.node_served.Given as goal

abbrev pub ghosts-node_served_by-L-Ledger : goal.ghosts-node_served_by-L-Ledger
ghosts-node_served_by-L-Ledger g a = record { name = a.blank.name; parts = 1 }

abbrev pub ghosts-node_served_by-L-Label : goal.ghosts-node_served_by-L-Label
ghosts-node_served_by-L-Label g a = record { config = a.config; seed = replicate 32 0; keeps = true }
