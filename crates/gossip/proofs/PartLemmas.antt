-- Lists with some left out.
use Rattle.std.proofs.Common.{List, [], ◌∷◌, ◌++◌}
use Rattle.gossip.specs.Parts.{IsPartOf, none, kept, left_out}

pub nothing_of : {X : Type 0} (ys : List X) → IsPartOf [] ys
nothing_of [] = none
nothing_of (y ∷ ys) = left_out (nothing_of ys)

pub joined_parts : {X : Type 0} {xs ys us vs : List X} → IsPartOf xs ys → IsPartOf us vs →
    IsPartOf (xs ++ us) (ys ++ vs)
joined_parts none q = q
joined_parts (kept p) q = kept (joined_parts p q)
joined_parts (left_out p) q = left_out (joined_parts p q)

pub part_of_more : {X : Type 0} {xs ys : List X} → IsPartOf xs ys → (zs : List X) → IsPartOf xs (ys ++ zs)
part_of_more none zs = nothing_of zs
part_of_more (kept p) zs = kept (part_of_more p zs)
part_of_more (left_out p) zs = left_out (part_of_more p zs)
