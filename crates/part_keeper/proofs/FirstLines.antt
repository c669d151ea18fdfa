-- The first line of bytes, as it is taken of a reader.
use Rattle.std.proofs.Common.{◌≡◌, ◌≢◌, All, eq-eqb, ℕ, ◌+◌, ◌-◌, ◌<◌, ◌≤◌, ◌==◌, Bool, true, false, List, [], ◌∷◌, ◌++◌, length, take, drop, Option, Some, None, refl, sym, ap, ◌∙◌, subst, arith, append_assoc, length-append, take-append-drop, take_all, inl, inr, ◌⊎◌}
use Rattle.std.specs.Prelude.{IfSome, nat_le, nat_lt, if◌then◌else◌}
use Rattle.std.specs.Io.BufRead.{ends_with_byte, strip_last, take_through}
use Rattle.std.proofs.lemmas.List.Elements.{All-cons, All-nil}
use Rattle.std.proofs.lemmas.Bool.{cases_Bool, cond-false, cond-true, eqb-true, lt-ltb, or_from, or_parts}
use Rattle.std.proofs.lemmas.Bool.Decides.{leb_tells}
use Rattle.std.proofs.lemmas.List.{drop_at, get_or_at, length_push, length-take, take_at}
use Rattle.drills.specs.Drills.{newline}
use Rattle.drills.specs.Written.{has_newline}
use Rattle.drills.proofs.Cut.{ends_at}
use Rattle.part_keeper.specs.declared.repeating.Next.{Next}
use Rattle.part_keeper.specs.declared.repeating.Next.TheVariants.{Line, End, TooLong}
use Rattle.part_keeper.specs.declared.repeating.TheConstants.{MOST_OF_LINE}
use Rattle.part_keeper.specs.Journals.{IsTaken, ReadsLine, line_within}
use Rattle.part_keeper.specs.Repeated.{next_in}

-- ---- whether bytes end with a newline

last_of : (line : List ℕ) → length (line ++ 10 ∷ []) - 1 ≡ length line
last_of line = let more = length_push line 10 in omega (arith, more)

ends_line : (line : List ℕ) → ends_with_byte 10 (line ++ 10 ∷ []) ≡ true
ends_line line =
    let more = length_push line 10 in
    let some : nat_lt 0 (length (line ++ 10 ∷ [])) ≡ true = lt-ltb _ _ (omega (arith, more)) in
    rw (some, last_of line, get_or_at line 10 [] 0 (length line) refl) refl

strip_line : (line : List ℕ) → strip_last 10 (line ++ 10 ∷ []) ≡ line
strip_line line =
    cond-true (ends_with_byte 10 (line ++ 10 ∷ [])) _ _ (ends_line line)
    ∙ ap (λ n. take n (line ++ 10 ∷ [])) (last_of line) ∙ take_at line (10 ∷ []) (length line) refl

ends_plain : (xs : List ℕ) → has_newline xs ≡ false → ends_with_byte 10 xs ≡ false
ends_plain [] h = refl
ends_plain (x ∷ []) h = (or_parts (x == newline) false h).0
ends_plain (x ∷ y ∷ ys) h =
    ends_at x (y ∷ ys) ∙ sym (ends_at y ys) ∙ ends_plain (y ∷ ys) (or_parts (x == newline) (has_newline (y ∷ ys)) h).1

strip_plain : (xs : List ℕ) → has_newline xs ≡ false → strip_last 10 xs ≡ xs
strip_plain xs h = cond-false (ends_with_byte 10 xs) _ _ (ends_plain xs h)

-- ---- the bytes through the first newline

abbrev pub EndsAt : List ℕ → Type 0
EndsAt xs = (line : List ℕ) × (rest : List ℕ) × (xs ≡ line ++ newline ∷ rest) × (has_newline line ≡ false)
    × (take_through 10 xs ≡ line ++ newline ∷ [])

abbrev pub IsPlain : List ℕ → Type 0
IsPlain xs = (has_newline xs ≡ false) × (take_through 10 xs ≡ xs)

pub through : (xs : List ℕ) → EndsAt xs ⊎ IsPlain xs
through [] = inr (refl, refl)
through (x ∷ xs) = at (cases_Bool (x == newline)) (through xs)
  where
    at : ((x == newline) ≡ true) ⊎ ((x == newline) ≡ false) → EndsAt xs ⊎ IsPlain xs → EndsAt (x ∷ xs) ⊎ IsPlain (x ∷ xs)
    at (inl newly) more = inl (
      [],
      xs,
      ap (λ b. b ∷ xs) (eqb-true x 10 newly),
      refl,
      cond-true (x == 10) (x ∷ []) (x ∷ take_through 10 xs) newly ∙ ap (λ b. b ∷ []) (eqb-true x 10 newly),
    )
    at (inr other) (inl more) = inl (
      x ∷ more.0,
      more.1,
      ap (λ l. x ∷ l) more.2,
      or_from (x == newline) (has_newline more.0) other more.3,
      cond-false (x == 10) (x ∷ []) (x ∷ take_through 10 xs) other ∙ ap (λ l. x ∷ l) more.4,
    )
    at (inr other) (inr more) = inr (
      or_from (x == newline) (has_newline xs) other more.0,
      cond-false (x == 10) (x ∷ []) (x ∷ take_through 10 xs) other ∙ ap (λ l. x ∷ l) more.1,
    )

-- ---- what was taken

next_line : (taken : List ℕ) → ends_with_byte 10 taken ≡ true → next_in taken ≡ Line
next_line taken e = cond-true (ends_with_byte 10 taken) _ _ e

next_other : (taken : List ℕ) (long : Bool) → ends_with_byte 10 taken ≡ false →
    nat_le MOST_OF_LINE (length taken) ≡ long → next_in taken ≡ (if long then TooLong else End)
next_other taken long e l =
    cond-false (ends_with_byte 10 taken) _ _ e ∙ ap (λ (b : Bool). if b then TooLong else End) l

module _ (bytes taken line : List ℕ) (left : Option (List ℕ)) (next : Next)
    (read : ReadsLine MOST_OF_LINE [] taken bytes left) (is : next ≡ next_in taken) (cut : line ≡ strip_last 10 taken) where
  whole : bytes ≡ take MOST_OF_LINE bytes ++ drop MOST_OF_LINE bytes
  whole = sym (take-append-drop MOST_OF_LINE bytes)

  ends : EndsAt (take MOST_OF_LINE bytes) → IsTaken next line bytes left
  ends found =
      let first = found.0 in
      let rest = found.1 ++ drop MOST_OF_LINE bytes in
      let took : taken ≡ first ++ newline ∷ [] = read.0 ∙ found.4 in
      let same : line ≡ first = cut ∙ ap (strip_last 10) took ∙ strip_line first in
      let all : bytes ≡ first ++ newline ∷ rest =
      whole ∙ ap (λ l. l ++ drop MOST_OF_LINE bytes) found.2 ∙ append_assoc first (newline ∷ found.1) (drop MOST_OF_LINE bytes) in
      let after : drop (length taken) bytes ≡ rest =
      ap (λ l. drop (length l) bytes) took ∙ ap (drop (length (first ++ newline ∷ []))) (all ∙ sym (append_assoc first (newline ∷ []) rest))
      ∙ drop_at (first ++ newline ∷ []) rest (length (first ++ newline ∷ [])) refl in
      let size = length-take MOST_OF_LINE bytes in
      let sizes : length (take MOST_OF_LINE bytes) ≡ length first + length (newline ∷ found.1) =
      ap length found.2 ∙ length-append first (newline ∷ found.1) in
      let within : length first < MOST_OF_LINE = omega (arith, size, sizes) in
      subst (λ (n : Next). IsTaken n line bytes left) (sym (is ∙ next_line taken (ap (ends_with_byte 10) took ∙ ends_line first)))
      (subst (λ l. IsTaken Line l bytes left) (sym same)
      (rest, read.1 ∙ ap (λ l. Some (drop (length l) bytes)) (sym read.0) ∙ ap Some after, all, found.3, within))

  plain : IsPlain (take MOST_OF_LINE bytes) → IsTaken next line bytes left
  plain found = at (leb_tells MOST_OF_LINE (length taken))
    where
      took : taken ≡ take MOST_OF_LINE bytes
      took = read.0 ∙ found.1

      unended : ends_with_byte 10 taken ≡ false
      unended = ap (ends_with_byte 10) took ∙ ends_plain (take MOST_OF_LINE bytes) found.0

      same : line ≡ take MOST_OF_LINE bytes
      same = cut ∙ ap (strip_last 10) took ∙ strip_plain (take MOST_OF_LINE bytes) found.0

      at : ((nat_le MOST_OF_LINE (length taken) ≡ true) × (MOST_OF_LINE ≤ length taken))
          ⊎ ((nat_le MOST_OF_LINE (length taken) ≡ false) × (length taken < MOST_OF_LINE)) → IsTaken next line bytes left
      at (inl many) =
          subst (λ (n : Next). IsTaken n line bytes left) (sym (is ∙ next_other taken true unended many.0))
          (subst (λ l. IsTaken TooLong l bytes left) (sym same)
          (drop MOST_OF_LINE bytes, whole, found.0, subst (λ (l : List ℕ). MOST_OF_LINE ≤ length l) took many.1))
      at (inr few) =
          let size = ap length took ∙ length-take MOST_OF_LINE bytes in
          let some = few.1 in
          let within : length bytes < MOST_OF_LINE = omega (arith, size, some) in
          let all : take MOST_OF_LINE bytes ≡ bytes = take_all MOST_OF_LINE bytes (omega (arith, within)) in
          subst (λ (n : Next). IsTaken n line bytes left) (sym (is ∙ next_other taken false unended few.0))
          (ap has_newline (sym all) ∙ found.0, within)

  taken_one : IsTaken next line bytes left
  taken_one = elim (through (take MOST_OF_LINE bytes)) [ inl found ↦ ends found | inr found ↦ plain found ]

-- what was taken of a reader, by its bytes
pub next_taken : (old left : Option (List ℕ)) (taken line : List ℕ) (next : Next) →
    IfSome old (λ bytes. ReadsLine MOST_OF_LINE [] taken bytes left) → next ≡ next_in taken →
    line ≡ strip_last 10 taken → IfSome old (λ bytes. IsTaken next line bytes left)
next_taken None left taken line next read is cut = tt
next_taken (Some bytes) left taken line next read is cut = taken_one bytes taken line left next read is cut

-- the bytes of a line, and those after it
pub within_prefix : (most : ℕ) (bytes : List ℕ) →
    bytes ≡ line_within most bytes ++ drop (length (line_within most bytes)) bytes
within_prefix most bytes = at (through (take most bytes))
  where
    at : EndsAt (take most bytes) ⊎ IsPlain (take most bytes) →
        bytes ≡ line_within most bytes ++ drop (length (line_within most bytes)) bytes
    at (inl found) =
        let line = found.0 ++ newline ∷ [] in
        let rest = found.1 ++ drop most bytes in
        let all : bytes ≡ line ++ rest =
        sym (take-append-drop most bytes) ∙ ap (λ l. l ++ drop most bytes) found.2
        ∙ append_assoc found.0 (newline ∷ found.1) (drop most bytes)
        ∙ sym (append_assoc found.0 (newline ∷ []) rest) in
        let after : drop (length line) bytes ≡ rest = ap (drop (length line)) all ∙ drop_at line rest (length line) refl in
        subst (λ l. bytes ≡ l ++ drop (length l) bytes) (sym found.4) (all ∙ ap (λ l. line ++ l) (sym after))
    at (inr found) =
        subst (λ l. bytes ≡ l ++ drop (length l) bytes) (sym found.1)
        (let rest = drop most bytes in
        let all : bytes ≡ take most bytes ++ rest = sym (take-append-drop most bytes) in
        all ∙ ap (λ l. take most bytes ++ l) (sym (ap (drop (length (take most bytes))) all
        ∙ drop_at (take most bytes) rest (length (take most bytes)) refl)))

pub plain_all : (xs : List ℕ) → has_newline xs ≡ false → All (λ x. x ≢ 10) xs
plain_all [] h = All-nil (λ x. x ≢ 10)
plain_all (x ∷ xs) h =
    let parts = or_parts (x == newline) (has_newline xs) h in
    All-cons (λ y. y ≢ 10) x xs (not_newline x parts.0) (plain_all xs parts.1)
  where
    not_newline : (x : ℕ) → (x == 10) ≡ false → x ≢ 10
    not_newline x h e = let same : (x == 10) ≡ true = eq-eqb x 10 e in let no : true ≡ false = sym same ∙ h in cc
