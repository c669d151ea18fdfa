-- The text that words of a command line are.
use Rattle.std.specs.Prelude.{ℕ, List, [], ◌++◌, ◌∷◌, Option, Some, None}
use Rattle.std.specs.List.{flat_map}

-- with a space between each two
abbrev pub joined : List (List ℕ) → List ℕ
joined [] = []
joined (word ∷ words) = word ++ flat_map (λ next. 32 ∷ next) words

-- none, where there is no word
abbrev pub text_of : List (List ℕ) → Option (List ℕ)
text_of [] = None
text_of (word ∷ words) = Some (joined (word ∷ words))
