-- Which text is a recorded drill, and of which one: it says parts of traces and of lists, which come to it.
use Rattle.std.specs.Prelude.{◌≡◌, ℕ, ◌<◌, ◌≤◌, Bool, List, [], ◌∷◌, if◌then◌else◌, map, flat_map, option_map, option_and_then, take, Option, Some, None}
use Rattle.node_calls.specs.Told.{Told}
use Rattle.drills.specs.Lines.{LineTold, head, trace, entry, list, receipt, ReceiptTold}
use Rattle.drills.specs.Reading.{line_in}
use Rattle.drills.specs.Drills.{DrillTold, behind, lines_in, started, takes_trace}

-- a part of a node's trace, or of a list of receipts: where it begins, if that is told, and what it has
pub data Part : Type 0 where
  of_trace : (node : ℕ) → (from : Option ℕ) → (entries : List Told) → Part
  of_list : (number : ℕ) → (from : Option ℕ) → (receipts : List ReceiptTold) → Part

abbrev pub part_lines : Part → List LineTold
part_lines (of_trace node from entries) = trace node from ∷ map entry entries
part_lines (of_list number from receipts) = list number from ∷ map receipt receipts

-- a part starts in its place, and what it has goes behind what is told before
abbrev pub with_more : {A : Type 0} → Bool → ℕ → Option ℕ → List A → List (List A) → Option (List (List A))
with_more pieces number from more parts = option_and_then (behind number more) (started pieces number from parts)

abbrev pub with_part : Bool → DrillTold → Part → Option DrillTold
with_part pieces d (of_trace node from entries) =
    if takes_trace pieces d.lists
    then option_map (λ traces. record d { traces = traces }) (with_more pieces node from entries d.traces)
    else None
with_part pieces d (of_list number from receipts) =
    option_map (λ lists. record d { lists = lists }) (with_more pieces number from receipts d.lists)

-- what parts come to, one after the other
abbrev pub made : Bool → DrillTold → List Part → Option DrillTold
made pieces d [] = Some d
made pieces d (part ∷ parts) = option_and_then (λ next. made pieces next parts) (with_part pieces d part)

abbrev pub no_drill : DrillTold
no_drill = record { traces = []; lists = [] }

-- lines say the first line of a drill, and then parts that come to it
pub record AreDrill (lines : List (List ℕ)) (d : DrillTold) : Type 0 where
  pub pieces : Bool
  pub parts : List Part
  pub said : map line_in lines ≡ map (λ line. Some line) (head pieces ∷ flat_map part_lines parts)
  pub come : made pieces no_drill parts ≡ Some d

abbrev pub IsDrill : List ℕ → DrillTold → Type 0
IsDrill bytes d = AreDrill (lines_in bytes) d

-- some drill
abbrev pub AreSomeDrill : List (List ℕ) → Type 0
AreSomeDrill lines = (d : DrillTold) × AreDrill lines d

-- the line of this number is bad, counted from 1: the lines up to each one before it are a drill, and with it they
-- are none. Where there is no line at all, the first is bad
pub record IsFirstBad (lines : List (List ℕ)) (number : ℕ) : Type 0 where
  pub counted : 1 ≤ number
  pub before : (n : ℕ) → 1 ≤ n → n < number → AreSomeDrill (take n lines)
  pub bad : AreSomeDrill (take number lines) → ⊥
