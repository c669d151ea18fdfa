-- Parts, of which each is the record of one node, as lines and as bytes.
use Rattle.std.specs.Prelude.{◌≡◌, ℕ, ◌+◌, ◌≤◌, Bool, true, false, ◌&&◌, ◌==◌, not, List, [], ◌∷◌, ◌++◌, length, map, flat_map, nat_le, nat_lt, if◌then◌else◌, Option, Some, None, option_map, option_and_then, Result}
use Rattle.node_calls.specs.Told.{Told}
use Rattle.drills.specs.declared.part.Part.{Part}
use Rattle.drills.specs.Lines.{LineTold, head, trace, entry, list, receipt, part_head, HeadTold, head_told}
use Rattle.drills.specs.Reading.{line_in}
use Rattle.drills.specs.Drills.{ended, newline, or_line, ◌>>=◌}

-- its head, the calls that its node accepted, and whether a last line was left out because no newline ends it
pub record PartTold : Type 0 where
  pub head : HeadTold
  pub entries : List Told
  pub cut : Bool

abbrev pub part_of : Part → PartTold
part_of p = record { head = head_told p.head; entries = p.trace.calls; cut = p.cut }

-- with no line that was left out
abbrev pub whole_part : HeadTold → List Told → PartTold
whole_part h entries = record { head = h; entries = entries; cut = false }

-- ---- written

abbrev pub part_lines : HeadTold → List Told → List LineTold
part_lines h entries = part_head h ∷ map entry entries

abbrev pub part_text : HeadTold → List Told → List ℕ
part_text h entries = flat_map ended (part_lines h entries)

-- ---- read

-- the lines that newlines end
abbrev pub in_ended : ℕ → List (List ℕ) → List (List ℕ)
in_ended byte [] = []
in_ended byte (line ∷ lines) = (byte ∷ line) ∷ lines

abbrev pub ended_in : List ℕ → List (List ℕ)
ended_in [] = []
ended_in (byte ∷ bytes) = if byte == newline then [] ∷ ended_in bytes else in_ended byte (ended_in bytes)

-- whether something stands behind the last of them: whether the last byte, if there is one, is no newline
abbrev pub ends_cut : Bool → List ℕ → Bool
ends_cut cut [] = cut
ends_cut cut (byte ∷ bytes) = ends_cut (not (byte == newline)) bytes

abbrev pub is_cut : List ℕ → Bool
is_cut bytes = ends_cut false bytes

-- the node is one of 32 at most
abbrev pub is_numbered : HeadTold → Bool
is_numbered h = nat_le h.nodes 32 && nat_lt h.node h.nodes

-- a part begins with its head, behind which there are only entries, as many as its node accepts calls at most
abbrev pub part_begun : LineTold → Option PartTold
part_begun (head pieces) = None
part_begun (trace node from) = None
part_begun (entry e) = None
part_begun (list number from) = None
part_begun (receipt r) = None
part_begun (part_head h) = if is_numbered h then Some (whole_part h []) else None

abbrev pub with_entry : PartTold → Told → Option PartTold
with_entry p e = if nat_lt (length p.entries) p.head.cap then Some (record p { entries = p.entries ++ e ∷ [] }) else None

abbrev pub part_grown : PartTold → LineTold → Option PartTold
part_grown p (head pieces) = None
part_grown p (trace node from) = None
part_grown p (entry e) = with_entry p e
part_grown p (list number from) = None
part_grown p (receipt r) = None
part_grown p (part_head h) = None

abbrev pub part_with : Option PartTold → LineTold → Option PartTold
part_with None line = part_begun line
part_with (Some p) line = part_grown p line

abbrev pub part_after : Option PartTold → List ℕ → Option PartTold
part_after so_far bytes = option_and_then (part_with so_far) (line_in bytes)

abbrev pub with_cut : Bool → PartTold → PartTold
with_cut cut p = record p { cut = cut }

-- what lines come to, of which the first has this number
abbrev pub part_from : Bool → Option PartTold → ℕ → List (List ℕ) → Result PartTold ℕ
part_from cut so_far number [] = or_line number (option_map (with_cut cut) so_far)
part_from cut so_far number (line ∷ lines) = do
  next ← or_line number (part_after so_far line)
  part_from cut (Some next) (number + 1) lines

-- the part that bytes are, or the number of the first line that is bad, counted from 1
unfoldable pub part_in : List ℕ → Result PartTold ℕ
part_in bytes = part_from (is_cut bytes) None 1 (ended_in bytes)

-- ---- which text is a part, and of which one

-- the node is one of the cluster, and accepted no more calls than it does
pub record CanBeRead (h : HeadTold) (entries : List Told) : Type 0 where
  pub numbered : is_numbered h ≡ true
  pub capped : length entries ≤ h.cap

-- the lines that newlines end say its head, and then its entries
pub record IsPart (bytes : List ℕ) (p : PartTold) : Type 0 where
  pub said : map line_in (ended_in bytes) ≡ map (λ line. Some line) (part_lines p.head p.entries)
  pub allowed : CanBeRead p.head p.entries
  pub cut : p.cut ≡ is_cut bytes
