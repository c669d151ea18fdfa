-- What was heard of the other nodes of a cluster: a row for each number that a node can have.
use Rattle.std.specs.Prelude.{ℕ, ◌+◌, ◌==◌, Bool, false, ◌&&◌, not, nat_lt, min, List, find, filter, map, replicate, slice_get, slice_set, if◌then◌else◌, is_none, Option, Some, None, unwrap_or}
use Rattle.std.specs.List.{range_with_len}
use Rattle.message_format.specs.Limits.{max_nodes}
use Rattle.report_text.specs.Peers.{count_of, place_of}
use Rattle.report_text.specs.declared.peer_rows.PeerRow.{PeerRow}
use Rattle.report_text.specs.declared.peer_rows.RejectCode.{RejectCode}
use Rattle.report_text.specs.declared.peer_rows.SendFault.{SendFault}
use Rattle.report_text.specs.declared.peer_rows.Sending.{Sending}
use Rattle.peers.specs.declared.code.Outcome.{Outcome}
use Rattle.peers.specs.declared.code.Outcome.TheVariants.{Accepted, Refused, Untold}
use Rattle.peers.specs.declared.heard.Cluster.{Cluster}
use Rattle.peers.specs.declared.heard.Row.{Row}
use Rattle.peers.specs.declared.heard.Hearing.{Hearing}
use Rattle.peers.specs.declared.heard.Hearing.TheVariants.{Whenever, First}

-- another node of the cluster
abbrev pub is_peer : Cluster → ℕ → Bool
is_peer cluster node = nat_lt node cluster.nodes && (nat_lt node max_nodes && not (node == cluster.own))

-- of whom nothing was heard, and to whom nothing was sent
abbrev pub fresh_row : Row
fresh_row = record { heard = None; refused = replicate 8 0; sending = record { fault = None; failures = 0 } }

abbrev pub fresh_rows : List Row
fresh_rows = replicate max_nodes fresh_row

abbrev pub row_at : List Row → ℕ → Row
row_at rows node = unwrap_or (slice_get rows node) fresh_row

-- ---- a message that came

-- one more, up to the greatest
abbrev pub one_more : ℕ → ℕ
one_more count = min (count + 1) 18446744073709551615

abbrev pub counted : List ℕ → RejectCode → List ℕ
counted refused code = slice_set refused (place_of code) (one_more (count_of refused code))

-- an accepted one was heard now; a refused one is counted, and not heard
abbrev pub row_noted : Row → Outcome → ℕ → Row
row_noted row Accepted now = record row { heard = Some now }
row_noted row (Refused code) now = record row { refused = counted row.refused code }
row_noted row Untold now = row

abbrev pub noted_from : Cluster → List Row → ℕ → Outcome → ℕ → List Row
noted_from cluster rows node outcome now =
    if is_peer cluster node then slice_set rows node (row_noted (row_at rows node) outcome now) else rows

-- a message is noted in the row of its sender, and in none where that is no other node of the cluster
abbrev pub noted : Cluster → List Row → Option ℕ → Outcome → ℕ → List Row
noted cluster rows None outcome now = rows
noted cluster rows (Some node) outcome now = noted_from cluster rows node outcome now

-- ---- an attempt to send

-- a failed one is counted; one that isn't ends the row of failures
abbrev pub sending_after : Sending → Option SendFault → Sending
sending_after before None = record { fault = None; failures = 0 }
sending_after before (Some fault) = record { fault = Some fault; failures = one_more before.failures }

abbrev pub row_attempted : Row → Option SendFault → Row
row_attempted row fault = record row { sending = sending_after row.sending fault }

-- an attempt is noted in the row of its node, and in none where that is no other node of the cluster
abbrev pub attempted : Cluster → List Row → ℕ → Option SendFault → List Row
attempted cluster rows node fault =
    if is_peer cluster node then slice_set rows node (row_attempted (row_at rows node) fault) else rows

-- ---- what is shown of each

abbrev pub peer_row : List Row → ℕ → PeerRow
peer_row rows node =
    record {
      node = node;
      heard = (row_at rows node).heard;
      refused = (row_at rows node).refused;
      sending = (row_at rows node).sending;
    }

-- each other node of the cluster, in order
abbrev pub peer_rows : Cluster → List Row → List PeerRow
peer_rows cluster rows = map (peer_row rows) (filter (is_peer cluster) (range_with_len 0 cluster.nodes))

-- ---- who is waited for

abbrev pub is_unheard : Cluster → List Row → ℕ → Bool
is_unheard cluster rows node = is_peer cluster node && is_none (row_at rows node).heard

-- the first other node of which no message was accepted
abbrev pub first_unheard : Cluster → List Row → Option ℕ
first_unheard cluster rows = find (is_unheard cluster rows) (range_with_len 0 cluster.nodes)

-- whether calls wait for a node
abbrev pub waits_for : Hearing → Cluster → List Row → ℕ → Bool
waits_for Whenever cluster rows node = false
waits_for First cluster rows node = is_unheard cluster rows node

-- the node that calls wait for, if they wait
abbrev pub awaited : Hearing → Cluster → List Row → Option ℕ
awaited Whenever cluster rows = None
awaited First cluster rows = first_unheard cluster rows
