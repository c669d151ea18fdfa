-- Lines as one text.
use Rattle.std.specs.Prelude.{ℕ, List}
use Rattle.std.specs.List.{flat_map}
use Rattle.streams.specs.Fields.{output_line}

-- each with a newline at its end
abbrev pub text_of_lines : List (List ℕ) → List ℕ
text_of_lines lines = flat_map output_line lines
