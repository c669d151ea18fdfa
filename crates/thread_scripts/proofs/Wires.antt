-- The wires of nodes, one after the other.
use Rattle.std.proofs.Common.{◌≡◌, ◌∙◌, ℕ, ◌+◌, List, ◌∷◌, map, ap, sym, arith, suc}
use Rattle.std.specs.List.{range_with_len}
use Rattle.thread_workers.proofs.Made.{first_or, rest_of}

-- the wire of the next node, and those of the others
pub next_wire : {A : Type 0} (f : ℕ → A) (n k : ℕ) (items rest : List A) (x : A)
    → items ≡ map f (range_with_len n (k + 1)) → items ≡ x ∷ rest → (x ≡ f n) × (rest ≡ map f (range_with_len (n + 1) k))
next_wire f n k items rest x is steps =
    let one : suc k ≡ k + 1 = omega arith in
    let e : x ∷ rest ≡ f n ∷ map f (range_with_len (n + 1) k) =
    sym steps ∙ is ∙ ap (λ j. map f (range_with_len n j)) (sym one) in
    (ap (first_or x) e, ap rest_of e)
