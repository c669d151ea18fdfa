-- Whom a served node has heard, and whether it hears the others first.
use Rattle.std.specs.Prelude.{◌≡◌, ℕ}
use Rattle.command_line.specs.declared.reading.Start.{Start}
use Rattle.command_line.specs.declared.reading.Start.TheVariants.{AtOnce, OthersHeard}
use Rattle.peers.specs.declared.heard.Hearing.{Hearing}
use Rattle.peers.specs.declared.heard.Hearing.TheVariants.{Whenever, First}
use Rattle.http_peers.specs.declared.shared.Peers.{Peers}

-- as the command line has it
abbrev pub hearing_of : Start → Hearing
hearing_of AtOnce = Whenever
hearing_of OthersHeard = First

-- they are the others of the node's cluster
pub record IsHeardBy (node nodes : ℕ) (start : Start) (heard : Peers) : Type 0 where
  pub cluster : heard.cluster ≡ record { own = node; nodes = nodes }
  pub hearing : heard.hearing ≡ hearing_of start
