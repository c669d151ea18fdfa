-- What is printed of codes of refusals, and what is said where there is none.
use Rattle.std.specs.Prelude.{ℕ, ◌==◌, Bool, List, ◌++◌, length, Option, Some, None, codes}
use Rattle.command_line.specs.Quoted.{quoted}
use Rattle.refusal_texts.specs.Explanations.{codes_text, explained_text, titles_text}
use Rattle.streams.specs.Fields.{output_line}

-- what explains a text; and without one, each title
abbrev pub asked_text : List ℕ → Option (List ℕ) → List ℕ
asked_text table None = titles_text table
asked_text table (Some text) = explained_text table text

-- nothing explains it
abbrev pub is_unknown : List ℕ → Option (List ℕ) → Bool
is_unknown table asked = length (asked_text table asked) == 0

-- what was met, as it is shown, and which codes there are
unfoldable pub no_code_text : List ℕ → List ℕ → List ℕ
no_code_text shown every =
    output_line (codes "error: no error code in " ++ shown) ++ output_line (codes "codes:" ++ every)

-- what is said of a text that nothing explains
abbrev pub unknown_text : List ℕ → List ℕ → List ℕ
unknown_text table text = no_code_text (quoted text) (codes_text table)
