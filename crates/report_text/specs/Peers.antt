-- What a node received from the other nodes of its cluster, as its status shows it: an object for each of them, whose
-- members are in byte order and whose numbers are texts.
use Rattle.std.specs.Prelude.{ℕ, List, [], ◌∷◌, ◌==◌, if◌then◌else◌, map, slice_index, codes, decimal, Option, Some, None}
use Rattle.serde_json.specs.Data.{Data, string, null, object, Members, member, no_members, put}
use Rattle.report_text.specs.Json.{list_data}
use Rattle.report_text.specs.declared.peer_rows.PeerRow.{PeerRow}
use Rattle.report_text.specs.declared.peer_rows.RejectCode.{RejectCode}
use Rattle.report_text.specs.declared.peer_rows.RejectCode.TheVariants.{TraceFull, BadMessage, NotForMe, OwnAhead, AckAhead, Overspent, OutOfMemory, TooManyPoints}

-- the codes with which a node rejects a message, in byte order
abbrev pub all_codes : List RejectCode
all_codes =
    TraceFull ∷ BadMessage ∷ NotForMe ∷ OwnAhead ∷ AckAhead ∷ Overspent ∷ OutOfMemory ∷ TooManyPoints ∷ []

abbrev pub code_name : RejectCode → List ℕ
code_name TraceFull = codes "N1"
code_name BadMessage = codes "N16"
code_name NotForMe = codes "N17"
code_name OwnAhead = codes "N18"
code_name AckAhead = codes "N19"
code_name Overspent = codes "N20"
code_name OutOfMemory = codes "N22"
code_name TooManyPoints = codes "N4"

-- the place of a code among all of them
abbrev pub place_of : RejectCode → ℕ
place_of TraceFull = 0
place_of BadMessage = 1
place_of NotForMe = 2
place_of OwnAhead = 3
place_of AckAhead = 4
place_of Overspent = 5
place_of OutOfMemory = 6
place_of TooManyPoints = 7

-- how many messages were rejected with a code
abbrev pub count_of : List ℕ → RejectCode → ℕ
count_of refused code = slice_index refused (place_of code)

-- ---- as JSON

abbrev pub number_data : ℕ → Data
number_data number = string (decimal number)

-- when, or that it never was
abbrev pub heard_data : Option ℕ → Data
heard_data None = null
heard_data (Some at) = number_data at

-- members with the count of a code, if it isn't 0
abbrev pub with_count : List ℕ → RejectCode → Members → Members
with_count refused code members =
    if count_of refused code == 0 then members else put (code_name code) (number_data (count_of refused code)) members

-- those of these codes, in byte order
abbrev pub counts_in : List ℕ → List RejectCode → Members
counts_in refused [] = no_members
counts_in refused (code ∷ rest) = with_count refused code (counts_in refused rest)

abbrev pub refused_data : List ℕ → Data
refused_data refused = object (counts_in refused all_codes)

abbrev pub peer_data : PeerRow → Data
peer_data row =
    object (member (codes "heard") (heard_data row.heard)
    (member (codes "node") (number_data row.node)
    (member (codes "refused") (refused_data row.refused) no_members)))

abbrev pub peers_data : List PeerRow → Data
peers_data rows = list_data (map peer_data rows)

-- the member of the other nodes, where they are shown
abbrev pub peers_member : Option (List PeerRow) → Members
peers_member None = no_members
peers_member (Some rows) = member (codes "peers") (peers_data rows) no_members
