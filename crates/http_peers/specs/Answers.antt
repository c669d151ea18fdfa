-- What is known under a lock of the other nodes of a cluster.
use Rattle.std.specs.Prelude.{◌≡◌, ℕ, Bool, List, Option}
use Rattle.report_text.specs.declared.peer_rows.PeerRow.{PeerRow}
use Rattle.peers.specs.declared.heard.Cluster.{Cluster}
use Rattle.peers.specs.declared.heard.Row.{Row}
use Rattle.peers.specs.declared.heard.Hearing.{Hearing}
use Rattle.peers.specs.Heard.{awaited, peer_rows, waits_for}

-- the node that calls wait for by some rows, if they wait
abbrev pub IsAwaited : Hearing → Cluster → Option ℕ → Type 0
IsAwaited hearing cluster node = (rows : List Row) × (node ≡ awaited hearing cluster rows)

-- whether calls wait for a node, by some rows
abbrev pub IsWaitedFor : Hearing → Cluster → ℕ → Bool → Type 0
IsWaitedFor hearing cluster node waits = (rows : List Row) × (waits ≡ waits_for hearing cluster rows node)

-- the other nodes, by some rows
abbrev pub AreRows : Cluster → List PeerRow → Type 0
AreRows cluster shown = (rows : List Row) × (shown ≡ peer_rows cluster rows)
