-- Calls of workers that were refused, by code.
use Rattle.std.specs.Prelude.{ℕ, ◌==◌, Bool, List, [], ◌∷◌, ◌++◌, count_by, codes, decimal, Option, Some, None}
use Rattle.std.specs.List.{find, flat_map, range_with_len}
use Rattle.std.specs.Option.{option_map_or}
use Rattle.node_calls.specs.FaultCodes.{code_of, codes_end}
use Rattle.node_calls.specs.FaultText.{node_fault_text}
use Rattle.node_calls.specs.declared.fault.NodeFault.{NodeFault}
use Rattle.streams.specs.Fields.{cut_of, first_word, space}

-- a call was refused with this code
abbrev pub has_code : ℕ → NodeFault → Bool
has_code code fault = code_of fault == code

-- ---- what is said

-- what stands behind the first word
abbrev pub rest_of : List ℕ → List ℕ
rest_of text = option_map_or (λ parts. parts.1) (cut_of text) []

-- the first two words: of a fault's text its code and its name
abbrev pub first_words : List ℕ → List ℕ
first_words text = first_word text ++ space ∷ first_word (rest_of text)

abbrev pub calls_said : List ℕ → ℕ → List (List ℕ)
calls_said text calls =
    (codes "calls of workers rejected with " ++ (first_words text ++ (codes ": " ++ decimal calls))) ∷ []

-- of so many calls, one of which was refused so
abbrev pub refused_said : Option NodeFault → ℕ → List (List ℕ)
refused_said None calls = []
refused_said (Some fault) calls = calls_said (node_fault_text fault) calls

-- of those that were refused with this code, if there are any
abbrev pub code_said : List NodeFault → ℕ → List (List ℕ)
code_said refused code = refused_said (find (has_code code) refused) (count_by (has_code code) refused)

-- of all, in the order of the codes
unfoldable pub refused_lines : List NodeFault → List (List ℕ)
refused_lines refused = flat_map (code_said refused) (range_with_len 0 codes_end)
