-- Lines that are read up to a number of bytes.
use Rattle.std.proofs.Common.{◌≡◌, ◌≢◌, ℕ, suc, ◌+◌, ◌-◌, ◌≤◌, All, List, [], ◌∷◌, ◌++◌, length, take, drop, Option, Some, None, refl, sym, ap, ◌∙◌, arith, append-nil, append_assoc, take_all}
use Rattle.std.specs.Prelude.{IfSome, OnSome}
use Rattle.std.specs.Io.{IsEmptyOrEndsWith, StopsAt}
use Rattle.std.specs.Io.BufRead.{take_through}
use Rattle.std.specs.Io.KnownBytes.{Consumes, IsAtEnd}
use Rattle.std.proofs.BufReadLemmas.{take_through-append, through_part}
use lib.Seq.{take-append_seam}
use Rattle.part_keeper.specs.Journals.{ReadsLine, line_within}

-- the first bytes of others that begin with `done`
take_more : (done rest : List ℕ) (most : ℕ) → length done ≤ most →
    take most (done ++ rest) ≡ done ++ take (most - length done) rest
take_more [] rest most h = ap (λ n. take n rest) (let same : most ≡ most - 0 = omega arith in same)
take_more (x ∷ done) rest most h =
    let one : most ≡ suc (most - 1) = omega arith in
    let less : most - 1 - length done ≡ most - suc (length done) = omega arith in
    ap (λ n. take n (x ∷ (done ++ rest))) one
    ∙ ap (λ l. x ∷ l) (take_more done rest (most - 1) (omega arith))
    ∙ ap (λ n. x ∷ (done ++ take n rest)) less

take_nil : (n : ℕ) → take {A = ℕ} n [] ≡ []
take_nil n = take_all n [] (omega arith)

drop_whole : (done rest : List ℕ) → drop (length done) (done ++ rest) ≡ rest
drop_whole [] rest = refl
drop_whole (x ∷ done) rest = drop_whole done rest

-- bytes without a newline, as many as are read at most
pub read_full : (a c : Option (List ℕ)) (most : ℕ) (old new line : List ℕ) → Consumes a c line →
    All (λ x. x ≢ 10) line → length line ≡ most → new ≡ old ++ line →
    IfSome a (λ bytes. ReadsLine most old new bytes c)
read_full None c most old new line taken plain full e = tt
read_full (Some bytes) None most old new line taken plain full e = absurd taken
read_full (Some bytes) (Some rest) most old new line taken plain full e =
    let whole : line_within most bytes ≡ line =
    ap (λ xs. take_through 10 (take most xs)) taken
    ∙ ap (λ n. take_through 10 (take n (line ++ rest))) (sym full)
    ∙ ap (take_through 10) (take-append_seam line rest ∙ sym (append-nil line))
    ∙ take_through-append 10 line [] plain ∙ append-nil line in (
      e ∙ ap (λ l. old ++ l) (sym whole),
      ap Some (sym (ap (λ l. drop (length l) bytes) whole ∙ ap (drop (length line)) taken ∙ drop_whole line rest)),
    )

-- bytes without a newline, and then those up to a newline or to the end
pub read_ended : (a b c : Option (List ℕ)) (most : ℕ) (old new done part : List ℕ) → Consumes a b done →
    All (λ x. x ≢ 10) done → Consumes b c part → StopsAt part 10 → IsEmptyOrEndsWith part 10 →
    (length part ≡ 0 → OnSome b (IsAtEnd c)) → length done + length part ≤ most → new ≡ old ++ (done ++ part) →
    IfSome a (λ bytes. ReadsLine most old new bytes c)
read_ended None b c most old new done part taken plain more stops ends end within e = tt
read_ended (Some bytes) None c most old new done part taken plain more stops ends end within e = absurd taken
read_ended (Some bytes) (Some rest) None most old new done part taken plain more stops ends end within e = absurd more
read_ended (Some bytes) (Some mid) (Some rest) most old new done part taken plain more stops ends end within e =
    let all : bytes ≡ done ++ (part ++ rest) = taken ∙ ap (λ l. done ++ l) more in
    let last = through_part 10 part (take (most - length done - length part) rest) stops ends
    (λ none. ap (take (most - length done - length part)) (end none) ∙ take_nil (most - length done - length part)) in
    let whole : line_within most bytes ≡ done ++ part =
    ap (λ xs. take_through 10 (take most xs)) all
    ∙ ap (take_through 10) (take_more done (part ++ rest) most (omega arith)
    ∙ ap (λ l. done ++ l) (take_more part rest (most - length done) (omega arith)))
    ∙ take_through-append 10 done _ plain ∙ ap (λ l. done ++ l) last.0 in (
      e ∙ ap (λ l. old ++ l) (sym whole),
      ap Some (sym (ap (λ l. drop (length l) bytes) whole
          ∙ ap (drop (length (done ++ part))) (all ∙ sym (append_assoc done part rest))
          ∙ drop_whole (done ++ part) rest)),
    )
