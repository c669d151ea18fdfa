-- Bytes as lines that newlines end, and what stands behind the last of them.
use Rattle.std.proofs.Common.{◌≡◌, ℕ, ◌<◌, ◌==◌, Bool, true, false, not, List, [], ◌∷◌, ◌++◌, length, map, flat_map, cond, Option, Some, None, refl, sym, ap, ◌∙◌, subst, arith, append_assoc, inl, inr}
use Rattle.std.specs.Prelude.{All, IfSome}
use Rattle.std.specs.Io.BufRead.{drop_through, ends_with_byte, first_piece, strip_last, take_through}
use Rattle.std.proofs.lemmas.Bool.{cases_Bool, cond_both, cond-false, cond-true, eqb-true, or_from, or_parts}
use Rattle.std.proofs.lemmas.List.Elements.{All-head, All-tail}
use Rattle.drills.specs.declared.part_reader.Next.{Next}
use Rattle.drills.specs.declared.part_reader.Next.TheVariants.{Line, End}
use Rattle.drills.specs.Drills.{ended, newline}
use Rattle.drills.specs.Lines.{LineTold, line_text}
use Rattle.drills.specs.Parts.{ended_in, ends_cut, in_ended, is_cut}
use Rattle.drills.specs.TakenEnded.{IsNext}
use Rattle.drills.specs.Written.{has_newline, ReadsBack}
use Rattle.drills.proofs.Cut.{ends_at, strip_through}

-- a line and its newline before other bytes
pub ended_one : (line rest : List ℕ) → has_newline line ≡ false →
    ended_in (line ++ newline ∷ rest) ≡ line ∷ ended_in rest
ended_one [] rest h = refl
ended_one (x ∷ xs) rest h =
    let parts = or_parts (x == newline) (has_newline xs) h in
    cond-false (x == newline) _ _ parts.0 ∙ ap (in_ended x) (ended_one xs rest parts.1)

pub cut_one : (cut : Bool) (line rest : List ℕ) → ends_cut cut (line ++ newline ∷ rest) ≡ ends_cut false rest
cut_one cut [] rest = refl
cut_one cut (x ∷ xs) rest = cut_one (not (x == newline)) xs rest

-- lines that are written one after the other
pub all_ended : (lines : List LineTold) → All ReadsBack lines → ended_in (flat_map ended lines) ≡ map line_text lines
all_ended [] h = refl
all_ended (line ∷ lines) h =
    ap ended_in (append_assoc (line_text line) (newline ∷ []) (flat_map ended lines))
    ∙ ended_one (line_text line) (flat_map ended lines) (All-head ReadsBack line lines h).one
    ∙ ap (λ ls. line_text line ∷ ls) (all_ended lines (All-tail ReadsBack line lines h))

pub none_cut : (lines : List LineTold) → is_cut (flat_map ended lines) ≡ false
none_cut [] = refl
none_cut (line ∷ lines) =
    ap is_cut (append_assoc (line_text line) (newline ∷ []) (flat_map ended lines))
    ∙ cut_one false (line_text line) (flat_map ended lines)
    ∙ none_cut lines

-- bytes with no newline
none_ended : (xs : List ℕ) → has_newline xs ≡ false → ended_in xs ≡ []
none_ended [] h = refl
none_ended (x ∷ xs) h =
    let parts = or_parts (x == newline) (has_newline xs) h in
    cond-false (x == newline) _ _ parts.0 ∙ ap (in_ended x) (none_ended xs parts.1)

all_cut : (cut : Bool) (x : ℕ) (xs : List ℕ) → has_newline (x ∷ xs) ≡ false → ends_cut cut (x ∷ xs) ≡ true
all_cut cut x [] h = ap not (or_parts (x == newline) false h).0
all_cut cut x (y ∷ ys) h =
    all_cut (not (x == newline)) y ys (or_parts (x == newline) (has_newline (y ∷ ys)) h).1

-- ---- the bytes up to the first newline

-- a byte in front of others doesn't change whether they end with a newline
ends_next : (x y : ℕ) (ys : List ℕ) → ends_with_byte 10 (x ∷ y ∷ ys) ≡ ends_with_byte 10 (y ∷ ys)
ends_next x y ys = ends_at x (y ∷ ys) ∙ sym (ends_at y ys)

ends_through : (x y : ℕ) (ys : List ℕ) →
    ends_with_byte 10 (x ∷ take_through 10 (y ∷ ys)) ≡ ends_with_byte 10 (take_through 10 (y ∷ ys))
ends_through x y ys =
    cond_both (y == 10) (y ∷ []) (y ∷ take_through 10 ys)
    (λ l. ends_with_byte 10 (x ∷ l) ≡ ends_with_byte 10 l)
    (λ _. ends_next x y []) (λ _. ends_next x y (take_through 10 ys))

-- a byte that is no newline, before others
ends_later : (x y : ℕ) (ys : List ℕ) (b : Bool) → (x == 10) ≡ false →
    ends_with_byte 10 (take_through 10 (x ∷ y ∷ ys)) ≡ b → ends_with_byte 10 (take_through 10 (y ∷ ys)) ≡ b
ends_later x y ys b other e =
    sym (ends_through x y ys)
    ∙ sym (ap (ends_with_byte 10) (cond-false (x == 10) (x ∷ []) (x ∷ take_through 10 (y ∷ ys)) other)) ∙ e

-- and the last one
ends_alone : (x : ℕ) (b : Bool) → (x == 10) ≡ false → ends_with_byte 10 (take_through 10 (x ∷ [])) ≡ b → b ≡ false
ends_alone x b other e =
    sym e ∙ ap (ends_with_byte 10) (cond-false (x == 10) (x ∷ []) (x ∷ []) other) ∙ other

-- a newline that comes first
ends_here : (x : ℕ) (xs : List ℕ) (b : Bool) → (x == 10) ≡ true → ends_with_byte 10 (take_through 10 (x ∷ xs)) ≡ b →
    b ≡ true
ends_here x xs b newly e =
    sym e ∙ ap (ends_with_byte 10) (cond-true (x == 10) (x ∷ []) (x ∷ take_through 10 xs) newly) ∙ newly

record IsEnded (xs : List ℕ) : Type 0 where
  pub plain : has_newline (first_piece 10 xs) ≡ false
  pub whole : xs ≡ first_piece 10 xs ++ newline ∷ drop_through 10 xs

ended_as : (bytes first rest : List ℕ) → has_newline first ≡ false → bytes ≡ first ++ newline ∷ rest →
    first_piece 10 bytes ≡ first → drop_through 10 bytes ≡ rest → IsEnded bytes
ended_as bytes first rest plain whole piece drop = record {
  plain = ap has_newline piece ∙ plain;
  whole = whole ∙ ap (λ f. f ++ newline ∷ rest) (sym piece) ∙
      ap (λ r. first_piece 10 bytes ++ newline ∷ r) (sym drop);
}

is_ended : (x : ℕ) (xs : List ℕ) → ends_with_byte 10 (take_through 10 (x ∷ xs)) ≡ true → IsEnded (x ∷ xs)
is_ended x [] ends = elim (cases_Bool (x == 10)) [
  | inl newly ↦ ended_as (x ∷ []) [] [] refl (ap (λ b. b ∷ []) (eqb-true x 10 newly))
      (ap (strip_last 10) (cond-true (x == 10) (x ∷ []) (x ∷ []) newly) ∙
      cond-true (ends_with_byte 10 (x ∷ [])) _ _ newly)
      (cond-true (x == 10) [] [] newly)
  | inr other ↦ absurd (let no : true ≡ false = ends_alone x true other ends in cc)
]
is_ended x (y ∷ ys) ends = elim (cases_Bool (x == 10)) [
  | inl newly ↦ ended_as (x ∷ y ∷ ys) [] (y ∷ ys) refl (ap (λ b. b ∷ y ∷ ys) (eqb-true x 10 newly))
      (ap (strip_last 10) (cond-true (x == 10) (x ∷ []) (x ∷ take_through 10 (y ∷ ys)) newly) ∙
      cond-true (ends_with_byte 10 (x ∷ [])) _ _ newly)
      (cond-true (x == 10) (y ∷ ys) (drop_through 10 (y ∷ ys)) newly)
  | inr other ↦
      let more = is_ended y ys (ends_later x y ys true other ends) in
      ended_as (x ∷ y ∷ ys) (x ∷ first_piece 10 (y ∷ ys)) (drop_through 10 (y ∷ ys))
      (or_from (x == newline) (has_newline (first_piece 10 (y ∷ ys))) other more.plain)
      (ap (λ l. x ∷ l) more.whole)
      (ap (strip_last 10) (cond-false (x == 10) (x ∷ []) (x ∷ take_through 10 (y ∷ ys)) other) ∙
      strip_through x y ys)
      (cond-false (x == 10) (y ∷ ys) (drop_through 10 (y ∷ ys)) other)
]

is_unended : (x : ℕ) (xs : List ℕ) → ends_with_byte 10 (take_through 10 (x ∷ xs)) ≡ false →
    has_newline (x ∷ xs) ≡ false
is_unended x [] ends = elim (cases_Bool (x == 10)) [
  | inl newly ↦ absurd (let no : false ≡ true = ends_here x [] false newly ends in cc)
  | inr other ↦ or_from (x == newline) false other refl
]
is_unended x (y ∷ ys) ends = elim (cases_Bool (x == 10)) [
  | inl newly ↦ absurd (let no : false ≡ true = ends_here x (y ∷ ys) false newly ends in cc)
  | inr other ↦ or_from (x == newline) (has_newline (y ∷ ys)) other
      (is_unended y ys (ends_later x y ys false other ends))
]

-- ---- what a reader gives next

-- bytes up to a newline
pub next_line : (old new : Option (List ℕ)) (bytes line : List ℕ) → IfSome old (λ xs. bytes ≡ take_through 10 xs) →
    IfSome old (λ xs. new ≡ Some (drop_through 10 xs))
    → 0 < length bytes → ends_with_byte 10 bytes ≡ true → line ≡ strip_last 10 bytes →
    IfSome old (λ xs. IsNext Line line xs new)
next_line None new bytes line b r some ends l = tt
next_line (Some []) new bytes line b r some ends l =
    let none = ap length b in
    absurd (omega (arith, none, some))
next_line (Some (x ∷ xs)) new bytes line b r some ends l =
    let so = is_ended x xs (ap (ends_with_byte 10) (sym b) ∙ ends) in
    let piece : first_piece 10 (x ∷ xs) ≡ line = ap (strip_last 10) (sym b) ∙ sym l in (
      drop_through 10 (x ∷ xs),
      r,
      ap ended_in so.whole ∙ ended_one (first_piece 10 (x ∷ xs)) (drop_through 10 (x ∷ xs)) so.plain ∙
          ap (λ p. p ∷ ended_in (drop_through 10 (x ∷ xs))) piece,
      ap is_cut so.whole ∙ cut_one false (first_piece 10 (x ∷ xs)) (drop_through 10 (x ∷ xs)),
    )

-- bytes up to the end
pub next_cut : (old new : Option (List ℕ)) (bytes line : List ℕ) → IfSome old (λ xs. bytes ≡ take_through 10 xs) →
    0 < length bytes → ends_with_byte 10 bytes ≡ false → IfSome old (λ xs. IsNext (End true) line xs new)
next_cut None new bytes line b some ends = tt
next_cut (Some []) new bytes line b some ends =
    let none = ap length b in
    absurd (omega (arith, none, some))
next_cut (Some (x ∷ xs)) new bytes line b some ends =
    let plain = is_unended x xs (ap (ends_with_byte 10) (sym b) ∙ ends) in
    (none_ended (x ∷ xs) plain, sym (all_cut false x xs plain))

-- no bytes
pub next_none : (old new : Option (List ℕ)) (bytes line : List ℕ) → IfSome old (λ xs. bytes ≡ take_through 10 xs) →
    length bytes ≡ 0 → IfSome old (λ xs. IsNext (End false) line xs new)
next_none None new bytes line b none = tt
next_none (Some []) new bytes line b none = (refl, refl)
next_none (Some (x ∷ xs)) new bytes line b none = absurd (some_through x xs (sym (ap length b) ∙ none))
  where
    some_through : (x : ℕ) (xs : List ℕ) → length (take_through 10 (x ∷ xs)) ≡ 0 → ⊥
    some_through x xs = cond_both (x == 10) (x ∷ []) (x ∷ take_through 10 xs) (λ l. length l ≡ 0 → ⊥)
        (λ _ e. omega (arith, e)) (λ _ e. omega (arith, e))

-- what was taken, as its last byte says
pub next_taken : (old new : Option (List ℕ)) (bytes line : List ℕ) (next : Next) →
    IfSome old (λ xs. bytes ≡ take_through 10 xs) → IfSome old (λ xs. new ≡ Some (drop_through 10 xs))
    → 0 < length bytes → next ≡ cond (ends_with_byte 10 bytes) Line (End true) → line ≡ strip_last 10 bytes →
    IfSome old (λ xs. IsNext next line xs new)
next_taken old new bytes line next taken rest some is l = so (ends_with_byte 10 bytes) refl is
  where
    so : (b : Bool) → ends_with_byte 10 bytes ≡ b → next ≡ cond b Line (End true) →
        IfSome old (λ xs. IsNext next line xs new)
    so true ends e = subst (λ (n : Next). IfSome old (λ xs. IsNext n line xs new)) (sym e)
        (next_line old new bytes line taken rest some ends l)
    so false ends e = subst (λ (n : Next). IfSome old (λ xs. IsNext n line xs new)) (sym e)
        (next_cut old new bytes line taken some ends)
