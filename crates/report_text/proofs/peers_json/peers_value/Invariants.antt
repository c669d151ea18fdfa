use Rattle.std.proofs.Common.{◌≡◌, map, take}
use Rattle.serde_json.specs.View.{view}
use Rattle.report_text.specs.Peers.{peer_data}
use Rattle.report_text.proofs.peers_json.peers_value.Given as goal

abbrev pub invariant-loop-row : goal.invariant-loop-row
invariant-loop-row l = map view l.values.items ≡ map peer_data (take l.row-index l.peers)
