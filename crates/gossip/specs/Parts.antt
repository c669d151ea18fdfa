-- Some of a list, in its order.
use Rattle.std.specs.Prelude.{List, [], ◌∷◌}

-- the first list is the second, some of which may be left out
pub data IsPartOf {X : Type 0} : List X → List X → Type 0 where
  none : IsPartOf [] []
  kept : {x : X} {xs ys : List X} → IsPartOf xs ys → IsPartOf (x ∷ xs) (x ∷ ys)
  left_out : {y : X} {xs ys : List X} → IsPartOf xs ys → IsPartOf xs (y ∷ ys)
