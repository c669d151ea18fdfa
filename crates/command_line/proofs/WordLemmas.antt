-- Words with a space between each two.
use Rattle.std.proofs.Common.{◌≡◌, List, ℕ, ◌∷◌, ◌++◌, Bor, map, ap, sym, ◌∙◌}
use Rattle.std.specs.List.{flat_map}
use Rattle.std.proofs.lemmas.List.Folds.{flat_map-map}
use Rattle.command_line.specs.Words.{joined}

-- the first word, and each other one behind a space
pub first_and_others : (words rest : List (Bor (List ℕ))) (first : Bor (List ℕ)) → words ≡ first ∷ rest →
    first.now ++ flat_map (λ word. 32 ∷ word.now) rest ≡ joined (map (λ w. w.now) words)
first_and_others words rest first e =
    ap (λ l. first.now ++ l) (sym (flat_map-map (λ (word : List ℕ). 32 ∷ word) (λ w. w.now) rest))
    ∙ ap (λ ws. joined (map (λ w. w.now) ws)) (sym e)
