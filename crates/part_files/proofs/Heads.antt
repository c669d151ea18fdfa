-- What a journal begins with.
use Rattle.std.proofs.Common.{◌≡◌, ◌≢◌, ℕ, ◌+◌, ◌-◌, ◌<◌, ◌≤◌, min, Bool, true, false, List, [], ◌∷◌, ◌++◌, length, take, drop, Option, Some, None, refl, sym, ap, ◌∙◌, subst, arith, append-nil, append_assoc, length-append, take-append-drop, take_all, inl, inr, ◌⊎◌}
use Rattle.std.specs.Prelude.{IfSome, nat_eq}
use Rattle.std.specs.Io.{StartsWith}
use Rattle.std.specs.Io.BufRead.{take_through}
use Rattle.std.proofs.BufReadLemmas.{take_through-append}
use Rattle.std.proofs.KnownBytes.{starts_with_rest}
use Rattle.std.proofs.lemmas.List.{drop_at, length_push, length-take, take_at}
use Rattle.std.specs.List.{starts_with}
use Rattle.std.proofs.Transfers.{starts_with_of_append}
use Rattle.std.proofs.lemmas.Bool.Decides.{Decides-eqb}
use Rattle.std.proofs.lemmas.Slice.Eq.{starts_is}
use Rattle.drills.specs.Drills.{newline}
use Rattle.drills.specs.Parts.{ended_in}
use Rattle.drills.specs.Written.{has_newline}
use Rattle.part_keeper.specs.Journals.{ReadsLine, line_within}
use Rattle.part_files.specs.Opened.{BeginsWith, IsCutHead, IsForeign}
use Rattle.drills.proofs.EndedLines.{ended_one}
use Rattle.part_keeper.proofs.FirstLines.{EndsAt, IsPlain, plain_all, through, within_prefix}

pub starts_true : (xs start : List ℕ) → starts_with nat_eq xs start ≡ true → StartsWith xs start
starts_true xs start is =
    starts_with_of_append xs start (drop (length start) xs) ((starts_is Decides-eqb xs start _ refl).0 is)

pub starts_false : (xs start : List ℕ) → starts_with nat_eq xs start ≡ false → StartsWith xs start → ⊥
starts_false xs start not starts =
    let is = (starts_is Decides-eqb xs start _ refl).1 _ (starts_with_rest xs start starts) in
    let no : false ≡ true = sym not ∙ is in cc

-- a line that a newline ends is the first of what begins with it
same_line : (line text rest more : List ℕ) → has_newline line ≡ false → has_newline text ≡ false →
    line ++ newline ∷ rest ≡ text ++ newline ∷ more → line ≡ text
same_line line text rest more plain other e =
    let lines : line ∷ ended_in rest ≡ text ∷ ended_in more =
    sym (ended_one line rest plain) ∙ ap ended_in e ∙ ended_one text more other in
    cc

module _ (first text : List ℕ) (ended : first ≡ text ++ newline ∷ []) (one : has_newline text ≡ false) where
  -- no beginning of the first line but all of it ends with a newline
  not_whole : (line rest more : List ℕ) → has_newline line ≡ false → first ≡ (line ++ newline ∷ rest) ++ more →
      0 < length more → ⊥
  not_whole line rest more plain e some =
      let both : line ++ newline ∷ (rest ++ more) ≡ text ++ newline ∷ [] =
      sym (append_assoc line (newline ∷ rest) more) ∙ sym e ∙ ended in
      let same = same_line line text (rest ++ more) [] plain one both in
      let lefts = ap length both in
      let left = length-append line (newline ∷ (rest ++ more)) in
      let right = length-append text (newline ∷ []) in
      let size = length-append rest more in
      let sizes = ap length same in
      omega (arith, lefts, left, right, size, sizes, some)

  cut_read : (bytes line more : List ℕ) → line ≡ line_within (length first) bytes → first ≡ line ++ more →
      0 < length more → bytes ≡ line
  cut_read bytes line more read e some = at (through (take (length first) bytes))
    where
      at : EndsAt (take (length first) bytes) ⊎ IsPlain (take (length first) bytes) → bytes ≡ line
      at (inl found) = absurd (not_whole found.0 [] more found.3 (e ∙ ap (λ l. l ++ more) (read ∙ found.4)) some)
      at (inr found) =
          let took = read ∙ found.1 in
          let sized = ap length took ∙ length-take (length first) bytes in
          let sizes = ap length e ∙ length-append line more in
          let within : length bytes ≤ length first = omega (arith, sized, sizes, some) in
          sym (take_all (length first) bytes within) ∙ sym took

  headed_read : (bytes line rest : List ℕ) → line ≡ line_within (length first) bytes → bytes ≡ first ++ rest →
      line ≡ first
  headed_read bytes line rest read e =
      read ∙ ap (λ b. take_through 10 (take (length first) b)) e
      ∙ ap (take_through 10) (take_at first rest (length first) refl ∙ ended)
      ∙ take_through-append 10 text (newline ∷ []) (plain_all text one) ∙ sym ended

  begun_read : (bytes line : List ℕ) → line ≡ line_within (length first) bytes → IsCutHead first bytes →
      StartsWith first line × (length line < length first)
  begun_read bytes line read cut = at (through bytes)
    where
      sizes : length first ≡ length bytes + length cut.0
      sizes = ap length cut.1 ∙ length-append bytes cut.0

      all : take (length first) bytes ≡ bytes
      all = let sum = sizes in take_all (length first) bytes (omega (arith, sum))

      at : EndsAt bytes ⊎ IsPlain bytes → StartsWith first line × (length line < length first)
      at (inl found) =
          absurd (not_whole found.0 found.1 cut.0 found.3 (cut.1 ∙ ap (λ b. b ++ cut.0) found.2) cut.2)
      at (inr found) =
          let took : line ≡ bytes = read ∙ ap (take_through 10) all ∙ found.1 in
          let some = cut.2 in
          let sum = sizes in (
            ap (take (length line)) (cut.1 ∙ ap (λ b. b ++ cut.0) (sym took)) ∙ take_at line cut.0 (length line) refl,
            let same = ap length took in omega (arith, same, sum, some),
          )

  -- ---- of a reader

  pub begins : (old left : Option (List ℕ)) (line : List ℕ) →
      IfSome old (λ bytes. ReadsLine (length first) [] line bytes left) → line ≡ first →
      IfSome old (λ bytes. BeginsWith true first bytes left)
  begins None left line read same = tt
  begins (Some bytes) left line read same =
      let whole = within_prefix (length first) bytes in
      let took : line_within (length first) bytes ≡ first = sym read.0 ∙ same in (
        drop (length (line_within (length first) bytes)) bytes,
        read.1,
        whole ∙ ap (λ l. l ++ drop (length (line_within (length first) bytes)) bytes) took,
      )

  pub begins_cut : (old left : Option (List ℕ)) (line : List ℕ) →
      IfSome old (λ bytes. ReadsLine (length first) [] line bytes left) → StartsWith first line →
      length line < length first → IfSome old (λ bytes. BeginsWith false first bytes left)
  begins_cut None left line read starts less = tt
  begins_cut (Some bytes) left line read starts less =
      let rest = drop (length line) first in
      let whole = starts_with_rest first line starts in
      let sizes = ap length whole ∙ length-append line rest in
      let some : 0 < length (drop (length line) first) = omega (arith, sizes, less) in
      let all = cut_read bytes line rest read.0 whole some in
      (rest, whole ∙ ap (λ b. b ++ rest) (sym all), some)

  pub begins_foreign : (old left : Option (List ℕ)) (line : List ℕ) →
      IfSome old (λ bytes. ReadsLine (length first) [] line bytes left) → line ≢ first →
      (length line < length first → StartsWith first line → ⊥) → IfSome old (λ bytes. IsForeign first bytes)
  begins_foreign None left line read other none = tt
  begins_foreign (Some bytes) left line read other none = record {
    headed = λ rest e. other (headed_read bytes line rest read.0 e);
    cut = λ cut. let begun = begun_read bytes line read.0 cut in none begun.1 begun.0;
  }
