-- What is read of bytes is the drill or the part that they are, and what parts come to.
use Rattle.std.specs.Prelude.{◌≡◌, ◌↔◌, ℕ, Bool, false, List, [], ◌∷◌, map, take, Some, Ok, Err}
use Rattle.drills.specs.Lines.{head}
use Rattle.drills.specs.Reading.{line_in}
use Rattle.drills.specs.Drills.{DrillTold, drill_in, drill_lines, lines_in}
use Rattle.drills.specs.Grammar.{IsDrill, IsFirstBad, Part, made, no_drill}
use Rattle.drills.specs.Pieces.{AreConcatenated, BeginsBehind}
use Rattle.drills.specs.Parts.{IsPart, PartTold, part_in}
use Rattle.drills.specs.Joined.{ListsAreTraces, joined_of}

-- they are one drill at most
abbrev pub BytesAreOneDrill : Type 0
BytesAreOneDrill = (bytes : List ℕ) (d e : DrillTold) → IsDrill bytes d → IsDrill bytes e → d ≡ e

abbrev pub DrillIsRead : Type 0
DrillIsRead = (bytes : List ℕ) (d : DrillTold) → (drill_in bytes ≡ Ok d) ↔ IsDrill bytes d

abbrev pub LineIsBad : Type 0
LineIsBad = (bytes : List ℕ) (number : ℕ) → (drill_in bytes ≡ Err number) ↔ IsFirstBad (lines_in bytes) number

-- what parts come to is, of each trace and each list, what they have of it, one behind the other
abbrev pub PartsAreConcatenated : Type 0
PartsAreConcatenated = (pieces : Bool) (parts : List Part) (d : DrillTold) → made pieces no_drill parts ≡ Some d →
    AreConcatenated parts d

abbrev pub PiecesBeginBehind : Type 0
PiecesBeginBehind = (pieces : Bool) (before after : List Part) (d : DrillTold) → BeginsBehind before after d pieces

-- a text of the first version is a drill just where its lines are the drill's, each part whole
abbrev pub WholePartsStay : Type 0
WholePartsStay = (bytes : List ℕ) (d : DrillTold) → take 1 (map line_in (lines_in bytes)) ≡ Some (head false) ∷ []
    → IsDrill bytes d ↔ (map line_in (lines_in bytes) ≡ map (λ line. Some line) (drill_lines d))

-- ---- parts that are the records of single nodes

abbrev pub PartIsRead : Type 0
PartIsRead = (bytes : List ℕ) (p : PartTold) → (part_in bytes ≡ Ok p) ↔ IsPart bytes p

abbrev pub JoinedListsAreTraces : Type 0
JoinedListsAreTraces = (parts : List PartTold) (d : DrillTold) → joined_of parts ≡ Ok d → ListsAreTraces d
