-- What is written of a recorded drill, and that it reads back.
use Rattle.std.specs.Prelude.{◌≡◌, ℕ, ◌≤◌, Bool, IsUtf8, false, ◌==◌, ◌||◌, List, [], ◌∷◌, All, flat_map, Option, Some}
use Rattle.std.specs.Io.KnownBytes.{Appends}
use Rattle.streams.specs.Streams.{Writes}
use Rattle.streams.specs.declared.watched.Watched.{Watched}
use Rattle.serde_json.specs.Data.{Data, depth}
use Rattle.serde_json.specs.Read.{max_depth, read}
use Rattle.serde_json.specs.Written.{compact_text, has_float}
use Rattle.drills.specs.Lines.{LineTold, line_text}
use Rattle.drills.specs.Reading.{line_in}
use Rattle.drills.specs.Drills.{ended, newline}

abbrev pub has_newline : List ℕ → Bool
has_newline [] = false
has_newline (byte ∷ bytes) = (byte == newline) || has_newline bytes

-- a line whose text is one line, and reads back
pub record ReadsBack (line : LineTold) : Type 0 where
  pub one : has_newline (line_text line) ≡ false
  pub read : line_in (line_text line) ≡ Some line

-- a text of JSON with no spaces, which is read as the value
pub record IsPrinted (d : Data) (text : List ℕ) : Type 0 where
  pub utf8 : IsUtf8 text
  pub compact : has_float d ≡ false → text ≡ compact_text d
  pub read : depth d ≤ max_depth → read text ≡ Some d

abbrev pub SaysLine : List ℕ → LineTold → Type 0
SaysLine text line = (text ≡ line_text line) × ReadsBack line

-- a value was written as JSON without spaces
abbrev pub WritesData : {W : Type 0} → (W → Option (List ℕ)) → W → W → Data → Type 0
WritesData contents old new d = Appends (contents old) (contents new) (compact_text d) × IsUtf8 (compact_text d)

-- a line was written that reads back; and with the newline that ends it
abbrev pub WritesLine : {W : Type 0} → (W → Option (List ℕ)) → W → W → LineTold → Type 0
WritesLine contents old new line = Appends (contents old) (contents new) (line_text line) × ReadsBack line

abbrev pub AddsLine : {W : Type 0} → (W → Option (List ℕ)) → W → W → LineTold → Type 0
AddsLine contents old new line = Appends (contents old) (contents new) (ended line) × ReadsBack line

-- lines that read back were written
abbrev pub WritesLines : {W : Type 0} → (W → Option (List ℕ)) → Watched W → Watched W → List LineTold → Type 0
WritesLines contents old new lines = Writes contents old new (flat_map ended lines) × All ReadsBack lines
