-- What is said of nodes, one after the other.
use Rattle.std.proofs.Common.{◌≡◌, ℕ, ◌+◌, List, [], ◌∷◌, ◌++◌, sym, ap, ◌∙◌, append_assoc, append-nil, arith}
use Rattle.std.specs.List.{flat_map, range_with_len}
use Rattle.std.proofs.lemmas.Grind.{flat_map-append}
use Rattle.std.proofs.lemmas.List.{map-id}
use Rattle.std.proofs.lemmas.List.Concat.{flat_map-cons}
use Rattle.std.proofs.lemmas.List.FromFn.{map-range_with_len_more}

range_more : (n : ℕ) → range_with_len 0 (n + 1) ≡ range_with_len 0 n ++ n ∷ []
range_more n =
    sym (map-id (range_with_len 0 (n + 1))) ∙ map-range_with_len_more (λ x. x) 0 n n (omega arith)
    ∙ ap (λ xs. xs ++ n ∷ []) (map-id (range_with_len 0 n))

-- with one node more
pub one_node : (f : ℕ → List (List ℕ)) (n : ℕ) (first out longer : List (List ℕ)) → out ≡ first ++ flat_map f (range_with_len 0 n) →
    longer ≡ out ++ f n → longer ≡ first ++ flat_map f (range_with_len 0 (n + 1))
one_node f n first out longer so_far grown =
    let alone : flat_map f (n ∷ []) ≡ f n = flat_map-cons f n [] ∙ append-nil (f n) in
    let more : flat_map f (range_with_len 0 (n + 1)) ≡ flat_map f (range_with_len 0 n) ++ f n =
    ap (flat_map f) (range_more n) ∙ flat_map-append f (range_with_len 0 n) (n ∷ [])
    ∙ ap (λ xs. flat_map f (range_with_len 0 n) ++ xs) alone in
    grown ∙ ap (λ xs. xs ++ f n) so_far ∙ append_assoc first (flat_map f (range_with_len 0 n)) (f n)
    ∙ ap (λ xs. first ++ xs) (sym more)
