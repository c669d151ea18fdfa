-- Bytes as lines.
use Rattle.std.proofs.Common.{◌≡◌, ℕ, suc, ◌-◌, ◌==◌, Bool, true, false, List, [], ◌∷◌, ◌++◌, length, map, flat_map, take, refl, ap, ◌∙◌, arith, append_assoc, inl, inr}
use Rattle.std.specs.Prelude.{All, cond, slice_index, nat_lt}
use Rattle.std.specs.Io.BufRead.{drop_through, ends_with_byte, first_piece, strip_last, take_through}
use Rattle.std.proofs.lemmas.Bool.{cases_Bool, cond_both, or_parts, cond-true, cond-false, lt-ltb}
use Rattle.std.proofs.lemmas.List.Elements.{All-head, All-tail}
use Rattle.drills.specs.Drills.{in_first, lines_in, newline, ended}
use Rattle.drills.specs.Lines.{LineTold, line_text}
use Rattle.drills.specs.Written.{has_newline, ReadsBack}

-- a line and its newline before other bytes
pub one_line : (line rest : List ℕ) → has_newline line ≡ false →
    lines_in (line ++ newline ∷ rest) ≡ line ∷ lines_in rest
one_line [] rest h = refl
one_line (x ∷ xs) rest h =
    let parts = or_parts (x == newline) (has_newline xs) h in
    cond-false (x == newline) _ _ parts.0 ∙ ap (in_first x) (one_line xs rest parts.1)

-- the lines of lines that are written one after the other
pub all_lines : (lines : List LineTold) → All ReadsBack lines → lines_in (flat_map ended lines) ≡ map line_text lines
all_lines [] h = refl
all_lines (line ∷ lines) h =
    ap lines_in (append_assoc (line_text line) (newline ∷ []) (flat_map ended lines))
    ∙ one_line (line_text line) (flat_map ended lines) (All-head ReadsBack line lines h).one
    ∙ ap (λ ls. line_text line ∷ ls) (all_lines lines (All-tail ReadsBack line lines h))

pub ends_at : (x : ℕ) (xs : List ℕ) → ends_with_byte 10 (x ∷ xs) ≡ (slice_index (x ∷ xs) (length xs) == 10)
ends_at x xs =
    let some : nat_lt 0 (length (x ∷ xs)) ≡ true = lt-ltb _ _ (omega arith) in
    let last : length (x ∷ xs) - 1 ≡ length xs = omega arith in
    rw (some, last) refl

-- without its last byte, where that is a newline
strip_next : (x y : ℕ) (ys : List ℕ) → strip_last 10 (x ∷ y ∷ ys) ≡ x ∷ strip_last 10 (y ∷ ys)
strip_next x y ys =
    let long : length (x ∷ y ∷ ys) - 1 ≡ suc (length ys) = omega arith in
    let short : length (y ∷ ys) - 1 ≡ length ys = omega arith in
    rw (ends_at x (y ∷ ys), ends_at y ys, long, short) (lift (slice_index (y ∷ ys) (length ys) == 10) x y ys)
  where
    lift : (b : Bool) (x y : ℕ) (ys : List ℕ) →
        cond b (take (suc (length ys)) (x ∷ y ∷ ys)) (x ∷ y ∷ ys) ≡ x ∷ cond b (take (length ys) (y ∷ ys)) (y ∷ ys)
    lift true x y ys = refl
    lift false x y ys = refl

pub strip_through : (x y : ℕ) (ys : List ℕ) → strip_last 10 (x ∷ take_through 10 (y ∷ ys)) ≡ x ∷ first_piece 10 (y ∷ ys)
strip_through x y ys =
    cond_both (y == 10) (y ∷ []) (y ∷ take_through 10 ys) (λ l. strip_last 10 (x ∷ l) ≡ x ∷ strip_last 10 l)
    (λ _. strip_next x y []) (λ _. strip_next x y (take_through 10 ys))

strip_one : (x : ℕ) → (x == 10) ≡ false → strip_last 10 (x ∷ []) ≡ x ∷ []
strip_one x other = cond-false (ends_with_byte 10 (x ∷ [])) _ _ other

-- the first line of some bytes, as a reader takes it, and the bytes behind it
abbrev IsCut : List ℕ → Type 0
IsCut bytes = lines_in bytes ≡ first_piece 10 bytes ∷ lines_in (drop_through 10 bytes)

cut : (bytes first rest : List ℕ) → lines_in bytes ≡ first ∷ lines_in rest → first_piece 10 bytes ≡ first →
    drop_through 10 bytes ≡ rest → IsCut bytes
cut bytes first rest h piece drop = rw (piece, drop) h

cut_here : (x : ℕ) (xs : List ℕ) → (x == 10) ≡ true → IsCut (x ∷ xs)
cut_here x xs ends =
    cut (x ∷ xs) [] xs (cond-true (x == 10) _ _ ends)
    (ap (strip_last 10) (cond-true (x == 10) (x ∷ []) (x ∷ take_through 10 xs) ends) ∙
    cond-true (ends_with_byte 10 (x ∷ [])) _ _ ends)
    (cond-true (x == 10) xs (drop_through 10 xs) ends)

cut_at_end : (x : ℕ) → (x == 10) ≡ false → IsCut (x ∷ [])
cut_at_end x other =
    cut (x ∷ []) (x ∷ []) [] (cond-false (x == 10) _ _ other)
    (ap (strip_last 10) (cond-false (x == 10) (x ∷ []) (x ∷ []) other) ∙ strip_one x other)
    (cond-false (x == 10) [] [] other)

cut_later : (x y : ℕ) (ys : List ℕ) → (x == 10) ≡ false → IsCut (y ∷ ys) → IsCut (x ∷ y ∷ ys)
cut_later x y ys other more =
    cut (x ∷ y ∷ ys) (x ∷ first_piece 10 (y ∷ ys)) (drop_through 10 (y ∷ ys))
    (cond-false (x == 10) _ _ other ∙ ap (in_first x) more)
    (ap (strip_last 10) (cond-false (x == 10) (x ∷ []) (x ∷ take_through 10 (y ∷ ys)) other) ∙ strip_through x y ys)
    (cond-false (x == 10) (y ∷ ys) (drop_through 10 (y ∷ ys)) other)

pub first_line : (x : ℕ) (xs : List ℕ) → lines_in (x ∷ xs) ≡ first_piece 10 (x ∷ xs) ∷
    lines_in (drop_through 10 (x ∷ xs))
first_line x [] = elim (cases_Bool (x == 10)) [ inl ends ↦ cut_here x [] ends | inr other ↦ cut_at_end x other ]
first_line x (y ∷ ys) = elim (cases_Bool (x == 10)) [
  | inl ends ↦ cut_here x (y ∷ ys) ends
  | inr other ↦ cut_later x y ys
      other (first_line y ys)
]
