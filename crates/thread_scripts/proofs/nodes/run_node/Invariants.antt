use Rattle.std.specs.Prelude.{true}
use Rattle.thread_scripts.proofs.nodes.run_node.Given as goal

abbrev pub ghosts-run_registry-L-Ledger : goal.ghosts-run_registry-L-Ledger
ghosts-run_registry-L-Ledger g a = record { name = a.blank.name; parts = a.seats }

abbrev pub ghosts-run_registry-L-Label : goal.ghosts-run_registry-L-Label
ghosts-run_registry-L-Label g a = record { config = a.job.config; seed = a.plan.now.seed; keeps = true }

abbrev pub ghosts-run_registry-L-Waiting : goal.ghosts-run_registry-L-Waiting
ghosts-run_registry-L-Waiting g a = record { waits = a.waits.now.awaits.items }
