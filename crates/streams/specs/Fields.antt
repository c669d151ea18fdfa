-- Lines and their fields, as bytes.
use Rattle.std.specs.Prelude.{ℕ, Bool, ◌==◌, List, [], ◌∷◌, ◌++◌, length, if◌then◌else◌, nat_lt, Option, Some, None}
use Rattle.std.specs.Option.{option_map_or}
use Rattle.std.specs.List.{slice_split, position_or_len, before_first, after_first}
use Rattle.decimals.specs.Decimals.{byte_of}
use Rattle.streams.specs.Lines.{◌>>=◌}

abbrev pub newline : ℕ
newline = 10

-- a text as a line
abbrev pub output_line : List ℕ → List ℕ
output_line text = text ++ newline ∷ []

abbrev pub space : ℕ
space = 32

abbrev pub is_space : ℕ → Bool
is_space byte = byte == space

-- what stands between the newlines: where a text ends with one, the last line is empty
abbrev pub lines_of : List ℕ → List (List ℕ)
lines_of text = slice_split (λ byte. byte == newline) text

-- what stands between the spaces
abbrev pub fields_of : List ℕ → List (List ℕ)
fields_of text = slice_split is_space text

abbrev pub has_space : List ℕ → Bool
has_space text = nat_lt (position_or_len is_space text) (length text)

abbrev pub before_space : List ℕ → List ℕ
before_space text = before_first is_space text

abbrev pub after_space : List ℕ → List ℕ
after_space text = after_first is_space text

-- what stands before the first space, and what after it
abbrev pub cut_of : List ℕ → Option (List ℕ × List ℕ)
cut_of text = if has_space text then Some (before_space text, after_space text) else None

-- what stands before the first space, or all
abbrev pub first_word : List ℕ → List ℕ
first_word text = option_map_or (λ parts. parts.0) (cut_of text) text

-- a field: some bytes, none of which is a space
abbrev pub field_of : List ℕ → Option (List ℕ)
field_of text = if (length text == 0) then None else (if has_space text then None else Some text)

-- a field before the first space, and what stands after it
abbrev pub field_cut_of : List ℕ → Option (List ℕ × List ℕ)
field_cut_of text = do
  parts ← cut_of text
  field ← field_of (parts.0)
  Some (field, parts.1)

-- the same of a number of a node or a term
abbrev pub byte_cut_of : List ℕ → Option (ℕ × List ℕ)
byte_cut_of text = do
  parts ← cut_of text
  number ← byte_of (parts.0)
  Some (number, parts.1)
