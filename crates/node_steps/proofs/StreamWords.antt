-- Random draws of a stream, one after the other.
use Rattle.std.proofs.Common.{◌≡◌, ℕ, zero, suc, ◌+◌, ◌<◌, ◌^◌, ◌%◌, List, [], ◌∷◌, ◌++◌, refl, sym, ap, ◌∙◌, arith}
use Rattle.std.proofs.Math.Nat.{mod-eq_of_lt}
use Rattle.rand_chacha.specs.ChaCha.{ChaCha, word_at}
use Rattle.node_steps.specs.Words.{word, words_from, words_next, place_after}

pub words_from-add : (key : List ℕ) (stream place m n : ℕ) →
    words_from key stream place (m + n) ≡ words_from key stream place m ++ words_from key stream (place + m) n
words_from-add key s p zero n = let e : 0 + n ≡ n = omega arith in let f : p + 0 ≡ p = omega arith in rw (e, f) refl
words_from-add key s p (suc m) n =
    let e : suc m + n ≡ suc (m + n) = omega arith in
    let f : (p + 1) + m ≡ p + suc m = omega arith in
    rw e (ap (λ ws. word key s p ∷ ws) (words_from-add key s (p + 1) m n ∙
    ap (λ q. words_from key s (p + 1) m ++ words_from key s q n) f))

word-at : (key : List ℕ) (stream place : ℕ) → word_at 4 key stream place ≡ word key stream place
unfolding word
word-at key s p = refl

mod_small : (p : ℕ) → p < 2 ^ 68 → p % 2 ^ 68 ≡ p
mod_small p h = mod-eq_of_lt h

-- one word more
pub words_next-push : (g : ChaCha) (n w : ℕ) (ws : List ℕ) → ws ≡ words_next g n →
    w ≡ word g.key g.stream (g.word_pos + n) → ws ++ w ∷ [] ≡ words_next g (n + 1)
words_next-push g n w ws before is =
    (λ i. before i ++ is i ∷ []) ∙ sym (words_from-add g.key g.stream g.word_pos n 1)

-- a generator that drew a word at a place that lies so far on
pub drawn_one : (g now new : ChaCha) (n w : ℕ) → now ≡ place_after g n →
    ◌≡◌ {A = ℕ × ChaCha} (w, new) (
      word_at 4 now.key now.stream now.word_pos,
      record now { word_pos = (now.word_pos + 1) % 2 ^ 68 },
    ) → g.word_pos + n + 1 < 2 ^ 68
    → (w ≡ word g.key g.stream (g.word_pos + n)) × (new ≡ place_after g (n + 1))
drawn_one g now new n w at next small =
    let small' : now.word_pos + 1 < 2 ^ 68 = omega (arith, ap (λ (h : ChaCha). h.word_pos) at) in
    let place : (now.word_pos + 1) % 2 ^ 68 ≡ g.word_pos + (n + 1) = mod_small _ small' ∙
    omega (arith, ap (λ (h : ChaCha). h.word_pos) at) in (
      ap (λ r. r.0) next ∙ word-at now.key now.stream now.word_pos ∙
          ap (λ (h : ChaCha). word h.key h.stream h.word_pos) at,
      ap (λ r. r.1) next ∙ (λ i. record { key = (at i).key; stream = (at i).stream; word_pos = place i }),
    )
