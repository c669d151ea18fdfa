-- Bytes that are taken block by block.
use Rattle.std.proofs.Common.{◌≡◌, ℕ, ◌+◌, ◌-◌, ◌≤◌, List, ◌++◌, length, take, drop, sym, ap, ◌∙◌, arith, append_assoc}
use Rattle.std.proofs.lemmas.List.{drop-drop, drop-take, take-append-drop, take-take}

-- what is left behind one more block
pub left_behind : (bytes rest more : List ℕ) → length rest ≤ length bytes
    → rest ≡ drop (length bytes - length rest) bytes → more ≡ drop 64 rest → length more + 64 ≡ length rest
    → more ≡ drop (length bytes - length more) bytes
left_behind bytes rest more fits at next len =
    next ∙ ap (λ (t : List ℕ). drop 64 t) at ∙ drop-drop 64 (length bytes - length rest) bytes
    ∙ ap (λ n. drop n bytes) (omega (arith, fits, len))

-- what was taken with one more block
pub taken_more : (bytes rest block more : List ℕ) → length rest ≤ length bytes
    → rest ≡ drop (length bytes - length rest) bytes → block ≡ take 64 rest → length more + 64 ≡ length rest
    → take (length bytes - length rest) bytes ++ block ≡ take (length bytes - length more) bytes
taken_more bytes rest block more fits at next len =
    let n = length bytes - length rest in
    let whole : take n (take (n + 64) bytes) ≡ take n bytes = take-take n (n + 64) bytes (omega arith) in
    ap (λ t. take n bytes ++ t) (next ∙ ap (λ (t : List ℕ). take 64 t) at ∙ sym (drop-take n 64 bytes))
    ∙ ap (λ t. t ++ drop n (take (n + 64) bytes)) (sym whole)
    ∙ take-append-drop n (take (n + 64) bytes)
    ∙ ap (λ m. take m bytes) (omega (arith, fits, len))

-- a piece in three parts: up to the end of a block, whole blocks, and what is behind them
pub three_parts : (came front back piece : List ℕ) (n : ℕ) → piece ≡ front ++ back
    → ((came ++ front) ++ take n back) ++ drop n back ≡ came ++ piece
three_parts came front back piece n whole =
    append_assoc (came ++ front) (take n back) (drop n back) ∙ ap (λ t. (came ++ front) ++ t) (take-append-drop n back)
    ∙ append_assoc came front back ∙ ap (λ t. came ++ t) (sym whole)
