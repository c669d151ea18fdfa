-- Bytes of which each is compared.
use Rattle.std.proofs.Common.{◌≡◌, ◌∷◌, ◌==◌, [], ℕ, List, sym, ap, ◌∙◌, arith}
use Rattle.std.specs.Prelude.{bytes_eq}
use Rattle.std.specs.Int.Bits.{bit_or, bit_xor, or_zero_l, xor_self, xor_add_and}
use Rattle.std.proofs.lemmas.Bool.Decides.{Decides-eqb, same_from_decides}
use Rattle.std.proofs.lemmas.Nat.{and_le_l, and_le_r, le_or_l, le_or_r}
use Rattle.std.proofs.lemmas.Slice.Eq.{bytes_eq-Decides}

-- where no bit differs
same_bits : (a b : ℕ) → bit_xor a b ≡ 0 → a ≡ b
same_bits a b e = omega (arith, e, xor_add_and a b, and_le_l a b, and_le_r a b)

-- xs and ys are left to be compared: where no bit is marked, all depends on them
abbrev pub IsMarked : List ℕ → List ℕ → List ℕ → List ℕ → ℕ → Type 0
IsMarked sent wanted xs ys differs =
    (differs ≡ 0 → xs ≡ ys → sent ≡ wanted) × (sent ≡ wanted → (xs ≡ ys) × (differs ≡ 0))

module _ (sent wanted : List ℕ) where
  pub marked_more : (ps qs xs ys : List ℕ) (x y differs : ℕ) → IsMarked sent wanted ps qs differs → ps ≡ (x ∷ xs)
      → qs ≡ (y ∷ ys) → IsMarked sent wanted xs ys (bit_or differs (bit_xor x y))
  marked_more ps qs xs ys x y differs (none, all) p q = (
    λ e rest.
        let first : x ≡ y = same_bits x y (omega (arith, e, le_or_r differs (bit_xor x y))) in
        none (omega (arith, e, le_or_l differs (bit_xor x y)))
        (p ∙ ap (λ (z : ℕ). z ∷ xs) first ∙ ap (λ (zs : List ℕ). y ∷ zs) rest ∙ sym q),
    λ e.
        let heads : (x ∷ xs) ≡ (y ∷ ys) = sym p ∙ (all e).0 ∙ q in
        let first : x ≡ y = cc in
        let rest : xs ≡ ys = cc in (
          rest,
          ap (λ (d : ℕ). bit_or d (bit_xor x y)) (all e).1 ∙ or_zero_l (bit_xor x y) ∙
              ap (λ (z : ℕ). bit_xor z y) first ∙ xor_self y,
        ),
  )

  pub marked_all : (xs ys : List ℕ) (differs : ℕ) → IsMarked sent wanted xs ys differs → xs ≡ [] → ys ≡ []
      → (differs == 0) ≡ bytes_eq sent wanted
  marked_all xs ys differs (none, all) p q =
      same_from_decides (differs == 0) (bytes_eq sent wanted)
      (λ t. none ((Decides-eqb differs 0).0 t) (p ∙ sym q), λ e. (Decides-eqb differs 0).1 (all e).1)
      (bytes_eq-Decides sent wanted)
