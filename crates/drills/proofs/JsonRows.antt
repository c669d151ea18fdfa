-- Rows of JSON that grow value by value.
use Rattle.std.proofs.Common.{◌≡◌, ℕ, ◌+◌, ◌<◌, List, [], ◌∷◌, ◌++◌, length, get_or, map, take, sym, ap, ◌∙◌, append_assoc}
use Rattle.std.proofs.lemmas.List.{map-append, map_more}
use Rattle.serde_json.specs.Data.{Data}
use Rattle.serde_json.specs.View.{view}
use Rattle.serde_json.specs.declared.value.Value.{Value}

-- the value of one element more
pub value_more : {X : Type 0} (tell : X → Data) (xs : List X) (i : ℕ) (x : X) (row mid new : List Value) (v : Value) →
    i < length xs → map view mid ≡ map view row ++ map tell (take i xs) → new ≡ mid ++ v ∷ [] →
    view v ≡ tell (get_or xs i x)
    → map view new ≡ map view row ++ map tell (take (i + 1) xs)
value_more tell xs i x row mid new v low so_far grown is =
    ap (map view) grown ∙ map-append view mid (v ∷ []) ∙ ap (λ ds. ds ++ view v ∷ []) so_far
    ∙ ap (λ d. (map view row ++ map tell (take i xs)) ++ d ∷ []) is
    ∙ append_assoc (map view row) (map tell (take i xs)) (tell (get_or xs i x) ∷ [])
    ∙ ap (λ ds. map view row ++ ds) (sym (map_more tell xs i x low))
