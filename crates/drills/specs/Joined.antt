-- The drill that parts join to.
use Rattle.std.specs.Prelude.{◌≡◌, ℕ, zero, suc, ◌+◌, Bool, ◌&&◌, ◌==◌, List, [], ◌∷◌, ◌++◌, nat_lt, slice_get, if◌then◌else◌, bytes_eq, Option, Some, None, option_map, option_and_then, Result, Ok, Err}
use Rattle.node_calls.specs.Told.{Told}
use Rattle.drills.specs.declared.join_fault.JoinFault.{JoinFault}
use Rattle.drills.specs.declared.join_fault.JoinFault.TheVariants.{NoPart, OtherDrill, SamePart}
use Rattle.drills.specs.Lines.{HeadTold, ReceiptTold}
use Rattle.drills.specs.Drills.{DrillTold}
use Rattle.drills.specs.Parts.{PartTold}

-- ---- whether they join

-- the head of a part of the drill that this one is of: of as many nodes, of the same run, and its node is one of them
abbrev pub is_beside : HeadTold → HeadTold → Bool
is_beside first h = (h.nodes == first.nodes) && bytes_eq h.run first.run && nat_lt h.node first.nodes

-- the place of the first part that is of another drill, where the first of them has this place
abbrev pub first_other : HeadTold → ℕ → List PartTold → Option ℕ
first_other first place [] = None
first_other first place (p ∷ parts) =
    if is_beside first p.head then first_other first (place + 1) parts else Some place

-- how many parts are of a node
abbrev pub parts_of : ℕ → List PartTold → ℕ
parts_of node [] = 0
parts_of node (p ∷ parts) = (if p.head.node == node then 1 else 0) + parts_of node parts

abbrev pub is_doubled : List PartTold → ℕ → Bool
is_doubled parts node = nat_lt 1 (parts_of node parts)

abbrev pub is_missing : List PartTold → ℕ → Bool
is_missing parts node = parts_of node parts == 0

-- the first of two, where there is one
abbrev pub first_of : {A : Type 0} → Option A → Option A → Option A
first_of None other = other
first_of (Some x) other = Some x

-- the least number below n that a test holds of
abbrev pub least : (ℕ → Bool) → ℕ → Option ℕ
least test zero = None
least test (suc n) = first_of (least test n) (if test n then Some n else None)

abbrev pub refusal_of : HeadTold → List PartTold → Option JoinFault
refusal_of first parts =
    first_of (option_map OtherDrill (first_other first 1 parts))
    (first_of (option_map SamePart (least (is_doubled parts) first.nodes))
    (option_map NoPart (least (is_missing parts) first.nodes)))

abbrev pub unless : {A : Type 0} → Option JoinFault → A → Result A JoinFault
unless None x = Ok x
unless (Some fault) x = Err fault

-- of how many nodes they are, where they join
abbrev pub nodes_of : List PartTold → Result ℕ JoinFault
nodes_of [] = Err (NoPart 0)
nodes_of (p ∷ parts) = unless (refusal_of p.head (p ∷ parts)) p.head.nodes

-- ---- what they join to

-- the calls of a node are those of its part
abbrev pub trace_of : ℕ → List PartTold → List Told
trace_of node [] = []
trace_of node (p ∷ parts) = if p.head.node == node then p.entries else trace_of node parts

-- of the nodes below n, in their order
abbrev pub traces_below : ℕ → List PartTold → List (List Told)
traces_below zero parts = []
traces_below (suc n) parts = traces_below n parts ++ trace_of n parts ∷ []

-- a receipt of each call, with its node and its place
abbrev pub receipt_at : ℕ → ℕ → Told → ReceiptTold
receipt_at node index e = record { node = node; index = index; entry = e }

abbrev pub receipts_from : ℕ → ℕ → List Told → List ReceiptTold
receipts_from node index [] = []
receipts_from node index (e ∷ entries) = receipt_at node index e ∷ receipts_from node (index + 1) entries

-- one list a node, of which the first has this number
abbrev pub lists_from : ℕ → List (List Told) → List (List ReceiptTold)
lists_from node [] = []
lists_from node (trace ∷ traces) = receipts_from node 0 trace ∷ lists_from (node + 1) traces

abbrev pub drill_of_traces : List (List Told) → DrillTold
drill_of_traces traces = record { traces = traces; lists = lists_from 0 traces }

abbrev pub joined_by : List PartTold → Result ℕ JoinFault → Result DrillTold JoinFault
joined_by parts (Ok nodes) = Ok (drill_of_traces (traces_below nodes parts))
joined_by parts (Err fault) = Err fault

-- the drill, or why there is none
unfoldable pub joined_of : List PartTold → Result DrillTold JoinFault
joined_of parts = joined_by parts (nodes_of parts)

-- ---- what the lists of such a drill have

abbrev pub at : {A : Type 0} → List (List A) → ℕ → ℕ → Option A
at lists number index = option_and_then (λ list. slice_get list index) (slice_get lists number)

-- a list for each trace, with a receipt of each of its calls, at the call's place, and no other
abbrev pub ListsAreTraces : DrillTold → Type 0
ListsAreTraces d = (node index : ℕ) → at d.lists node index ≡ option_map (receipt_at node index) (at d.traces node index)
