-- The lines of a journal that is read, and how far a node repeats their calls.
use Rattle.std.specs.Prelude.{◌≡◌, ℕ, ◌+◌, ◌<◌, ◌≤◌, false, List, [], ◌∷◌, ◌++◌, length, take, drop, flat_map, All, Option, Some, None}
use Rattle.std.specs.Io.BufRead.{take_through}
use Rattle.drills.specs.Drills.{lines_in, newline}
use Rattle.drills.specs.Parts.{ended_in}
use Rattle.drills.specs.Reading.{entry_in}
use Rattle.drills.specs.Written.{has_newline}
use Rattle.node_steps.specs.declared.config.Config.{Config}
use Rattle.part_keeper.specs.declared.fault.PartFault.{PartFault}
use Rattle.part_keeper.specs.declared.fault.PartFault.TheVariants as parts
use Rattle.part_keeper.specs.declared.repeating.Next.{Next}
use Rattle.part_keeper.specs.declared.repeating.Next.TheVariants.{Line, End, TooLong}
use Rattle.part_keeper.specs.declared.repeating.Repeated.{Repeated}
use Rattle.part_keeper.specs.declared.repeating.TheConstants.{MOST_OF_LINE}
use Rattle.part_keeper.specs.Repeated.{IsOtherwise, IsRepeated, at_most}

-- ---- one line

-- the first line of bytes with its newline, or what of it stands in the first `most` bytes
abbrev pub line_within : ℕ → List ℕ → List ℕ
line_within most bytes = take_through newline (take most bytes)

-- it was appended to other bytes, and the bytes after it are left
abbrev pub ReadsLine : ℕ → List ℕ → List ℕ → List ℕ → Option (List ℕ) → Type 0
ReadsLine most old new bytes left =
    (new ≡ old ++ line_within most bytes) × (left ≡ Some (drop (length (line_within most bytes)) bytes))

-- a line, with its newline, has no more bytes than are read of one
abbrev pub IsShort : List ℕ → Type 0
IsShort line = length line < MOST_OF_LINE

-- of these bytes the first line was taken, and those after its newline are left; or none ends with a newline; or the
-- first one has more bytes than are read of one
abbrev pub IsTaken : Next → List ℕ → List ℕ → Option (List ℕ) → Type 0
IsTaken Line line bytes left = (rest : List ℕ) × (left ≡ Some rest) × (bytes ≡ line ++ newline ∷ rest)
    × (has_newline line ≡ false) × IsShort line
IsTaken End line bytes left = (has_newline bytes ≡ false) × IsShort bytes
IsTaken TooLong line bytes left =
    (rest : List ℕ) × (bytes ≡ line ++ rest) × (has_newline line ≡ false) × (MOST_OF_LINE ≤ length line)

-- ---- all lines

-- lines, each with the newline that ends it
abbrev pub with_newlines : List (List ℕ) → List ℕ
with_newlines lines = flat_map (λ line. line ++ newline ∷ []) lines

-- the calls of these lines were repeated in order, from a seat that had made so many calls and has made so many then
abbrev pub AreRepeated : Config → List ℕ → ℕ → ℕ → List (List ℕ) → Type 0
AreRepeated config seed had has [] = has ≡ had
AreRepeated config seed had has (line ∷ lines) =
    (mid : ℕ) × IsRepeated config seed had mid line × AreRepeated config seed mid has lines

-- the call of each line that a newline ends was repeated, in order; how many these are, and how many bytes they have.
-- No line has more bytes than are read of one, also what the last newline is followed by
pub record AreAllRepeated (config : Config) (seed : List ℕ) (had has : ℕ) (bytes : List ℕ) (r : Repeated) : Type 0 where
  pub repeated : AreRepeated config seed had has (ended_in bytes)
  pub calls : r.calls ≡ length (ended_in bytes)
  pub size : r.bytes ≡ at_most (length (with_newlines (ended_in bytes)))
  pub short : All IsShort (lines_in bytes)

-- the calls of all lines before the one of this number were repeated, and this holds of that one. The first of these
-- lines is the second of the journal
pub record StopsAt (config : Config) (seed : List ℕ) (had : ℕ) (lines : List (List ℕ)) (number : ℕ)
    (fact : List ℕ → Type 0) : Type 0 where
  pub before : List (List ℕ)
  pub line : List ℕ
  pub after : List (List ℕ)
  pub parts : lines ≡ before ++ line ∷ after
  pub counted : number ≡ length before + 2
  pub has : ℕ
  pub repeated : AreRepeated config seed had has before
  pub holds : fact line

-- why the lines of these bytes aren't all repeated
abbrev pub IsFaultOf : Config → List ℕ → ℕ → List ℕ → PartFault → Type 0
IsFaultOf config seed had bytes (parts.NoCall number) =
    StopsAt config seed had (ended_in bytes) number (λ line. entry_in line ≡ None)
IsFaultOf config seed had bytes (parts.Differs number) =
    StopsAt config seed had (ended_in bytes) number (IsOtherwise config seed)
IsFaultOf config seed had bytes (parts.TooLong number) =
    StopsAt config seed had (lines_in bytes) number (λ line. MOST_OF_LINE ≤ length line)
IsFaultOf config seed had bytes parts.ReadFailed = Unit {0}
IsFaultOf config seed had bytes parts.OutOfMemory = Unit {0}
