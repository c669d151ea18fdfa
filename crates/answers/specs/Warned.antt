-- Warnings as JSON objects, each on a line of its own.
use Rattle.std.specs.Prelude.{ℕ, Bool, List, ◌++◌, is_some, codes, flat_map}
use Rattle.streams.specs.Lines.{text_in}
use Rattle.answers.specs.Strings.{string_of}

-- it is UTF-8 throughout
abbrev pub is_text : List ℕ → Bool
is_text line = is_some (text_in line)

abbrev pub warning_object : List ℕ → List ℕ
warning_object line = codes "{\"says\":\"" ++ (string_of (is_text line) line ++ codes "\"}\n")

abbrev pub warning_objects : List (List ℕ) → List ℕ
warning_objects lines = flat_map warning_object lines
