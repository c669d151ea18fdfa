-- Recorded drills: the traces of the nodes and the lists of receipts, as lines and as bytes.
use Rattle.std.specs.Prelude.{◌≡◌, ℕ, zero, suc, ◌+◌, Bool, false, ◌==◌, ◌||◌, List, [], ◌∷◌, ◌++◌, length, map, flat_map, slice_get, if◌then◌else◌, Option, Some, None, option_map, option_and_then, Result, Ok, Err, Vec}
use Rattle.std.specs.declared.alloc.Global.{Global}
use Rattle.node_calls.specs.declared.receipt.Receipt.{Receipt}
use Rattle.node_calls.specs.Told.{Told}
use Rattle.packed_trace.specs.Packed.{Packed}
use Rattle.drills.specs.declared.drill.Drill.{Drill}
use Rattle.drills.specs.declared.so_far.Place.{Place}
use Rattle.drills.specs.declared.so_far.Place.TheVariants.{InList, InTrace, Nowhere}
use Rattle.drills.specs.declared.so_far.SoFar.{SoFar}
use Rattle.drills.specs.Lines.{LineTold, head, trace, entry, list, receipt, part_head, ReceiptTold, receipt_told, line_text}
use Rattle.drills.specs.Reading.{line_in}

pub record DrillTold : Type 0 where
  pub traces : List (List Told)
  pub lists : List (List ReceiptTold)

-- ---- the same of the code's values

abbrev pub traces_told : List Packed → List (List Told)
traces_told traces = map (λ trace. trace.calls) traces

abbrev pub lists_told : List (Vec Receipt Global) → List (List ReceiptTold)
lists_told lists = map (λ list. map receipt_told list.items) lists

abbrev pub drill_told : List Packed → List (Vec Receipt Global) → DrillTold
drill_told traces lists = record { traces = traces_told traces; lists = lists_told lists }

abbrev pub drill_of : Drill → DrillTold
drill_of d = drill_told d.traces.items d.lists.items

-- ---- written: each part whole

abbrev pub trace_lines : ℕ → List Told → List LineTold
trace_lines node entries = trace node None ∷ map entry entries

abbrev pub list_lines : ℕ → List ReceiptTold → List LineTold
list_lines number receipts = list number None ∷ map receipt receipts

-- one part after the other, each with its number
abbrev pub numbered : {A : Type 0} → (ℕ → A → List LineTold) → ℕ → List A → List LineTold
numbered lines n [] = []
numbered lines n (part ∷ parts) = lines n part ++ numbered lines (n + 1) parts

abbrev pub drill_lines : DrillTold → List LineTold
drill_lines d = head false ∷ (numbered trace_lines 0 d.traces ++ numbered list_lines 0 d.lists)

abbrev pub newline : ℕ
newline = 10

abbrev pub ended : LineTold → List ℕ
ended line = line_text line ++ newline ∷ []

abbrev pub drill_text : DrillTold → List ℕ
drill_text d = flat_map ended (drill_lines d)

-- ---- read

-- the lines of bytes: what each newline ends, and what stands behind the last one, where something does
abbrev pub in_first : ℕ → List (List ℕ) → List (List ℕ)
in_first byte [] = (byte ∷ []) ∷ []
in_first byte (line ∷ lines) = (byte ∷ line) ∷ lines

abbrev pub lines_in : List ℕ → List (List ℕ)
lines_in [] = []
lines_in (byte ∷ bytes) = if byte == newline then [] ∷ lines_in bytes else in_first byte (lines_in bytes)

-- a new part, where this is its number
abbrev pub begun : {A : Type 0} → ℕ → List (List A) → Option (List (List A))
begun number parts = if number == length parts then Some (parts ++ [] ∷ []) else None

-- a part, if it is there, has so much so far
abbrev pub ends_at : {A : Type 0} → ℕ → Option (List A) → Bool
ends_at told None = false
ends_at told (Some part) = told == length part

-- the part of this number goes on behind all that is told of it so far; nothing is told yet of one that begins
abbrev pub gone_on : {A : Type 0} → ℕ → ℕ → List (List A) → Option (List (List A))
gone_on number from parts =
    if ends_at from (slice_get parts number) then Some parts else (if from == 0 then begun number parts else None)

-- a part begins; or goes on from where the line says, if parts may come in pieces
abbrev pub started : {A : Type 0} → Bool → ℕ → Option ℕ → List (List A) → Option (List (List A))
started pieces number None parts = begun number parts
started pieces number (Some from) parts = if pieces then gone_on number from parts else None

-- more behind the part of this number, where there is one
abbrev pub behind : {A : Type 0} → ℕ → List A → List (List A) → Option (List (List A))
behind n more [] = None
behind zero more (part ∷ parts) = Some ((part ++ more) ∷ parts)
behind (suc n) more (part ∷ parts) = option_map (λ rest. part ∷ rest) (behind n more parts)

-- whether something was put: it comes to this then, and else to nothing
abbrev pub IsPut : {A : Type 0} → Bool → Option A → A → Type 0
IsPut put next new = next ≡ (if put then Some new else None)

-- what is read so far: whether parts may come in pieces, the traces and the lists, and which of them goes on
pub record SoFarTold : Type 0 where
  pub pieces : Bool
  pub traces : List (List Told)
  pub lists : List (List ReceiptTold)
  pub place : Place

abbrev pub drill_so_far : SoFarTold → DrillTold
drill_so_far s = record { traces = s.traces; lists = s.lists }

abbrev pub so_far_of : SoFar → SoFarTold
so_far_of s =
    let d = drill_of s.drill in record { pieces = s.pieces; traces = d.traces; lists = d.lists; place = s.place }

-- the traces come before the lists, where none comes in pieces
abbrev pub takes_trace : Bool → List (List ReceiptTold) → Bool
takes_trace pieces lists = pieces || (length lists == 0)

abbrev pub after_trace : SoFarTold → ℕ → Option ℕ → Option SoFarTold
after_trace s node from =
    if takes_trace s.pieces s.lists
    then option_map (λ traces. record s { traces = traces; place = InTrace node }) (started s.pieces node from s.traces)
    else None

abbrev pub after_list : SoFarTold → ℕ → Option ℕ → Option SoFarTold
after_list s number from =
    option_map (λ lists. record s { lists = lists; place = InList number }) (started s.pieces number from s.lists)

abbrev pub after_entry : SoFarTold → Told → Place → Option SoFarTold
after_entry s e Nowhere = None
after_entry s e (InTrace node) = option_map (λ traces. record s { traces = traces }) (behind node (e ∷ []) s.traces)
after_entry s e (InList number) = None

abbrev pub after_receipt : SoFarTold → ReceiptTold → Place → Option SoFarTold
after_receipt s r Nowhere = None
after_receipt s r (InTrace node) = None
after_receipt s r (InList number) = option_map (λ lists. record s { lists = lists }) (behind number (r ∷ []) s.lists)

abbrev pub after_head : SoFarTold → LineTold → Option SoFarTold
after_head s (head pieces) = None
after_head s (trace node from) = after_trace s node from
after_head s (entry e) = after_entry s e s.place
after_head s (list number from) = after_list s number from
after_head s (receipt r) = after_receipt s r s.place
after_head s (part_head h) = None

-- a drill has no part yet behind its first line, before which there is none
abbrev pub at_start : LineTold → Option SoFarTold
at_start (head pieces) = Some (record { pieces = pieces; traces = []; lists = []; place = Nowhere })
at_start (trace node from) = None
at_start (entry e) = None
at_start (list number from) = None
at_start (receipt r) = None
at_start (part_head h) = None

abbrev pub after_line : Option SoFarTold → LineTold → Option SoFarTold
after_line None line = at_start line
after_line (Some s) line = after_head s line

abbrev pub after_text : Option SoFarTold → List ℕ → Option SoFarTold
after_text so_far bytes = option_and_then (after_line so_far) (line_in bytes)

-- or the number of the line, where it can't be read or stands out of its place
abbrev pub or_line : {A : Type 0} → ℕ → Option A → Result A ℕ
or_line number None = Err number
or_line number (Some x) = Ok x

infixl 10 ◌>>=◌
abbrev pub ◌>>=◌ : {A B : Type 0} → Result A ℕ → (A → Result B ℕ) → Result B ℕ
(Ok x) >>= f = f x
(Err line) >>= f = Err line

-- what lines come to, of which the first has this number
abbrev pub drill_from : Option SoFarTold → ℕ → List (List ℕ) → Result DrillTold ℕ
drill_from so_far number [] = or_line number (option_map drill_so_far so_far)
drill_from so_far number (line ∷ lines) = do
  next ← or_line number (after_text so_far line)
  drill_from (Some next) (number + 1) lines

-- the drill that bytes are, or the number of the first line that is bad, counted from 1
unfoldable pub drill_in : List ℕ → Result DrillTold ℕ
drill_in bytes = drill_from None 1 (lines_in bytes)
