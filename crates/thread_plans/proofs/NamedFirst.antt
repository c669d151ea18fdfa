-- Of a script without a plan the line that is refused is named first, and of another nothing is said.
use Rattle.std.proofs.Common.{◌≡◌, ℕ, ◌+◌, List, [], ◌∷◌, ◌++◌, Option, Some, None, Result, Ok, Err, refl, sym, ap, ◌∙◌}
use Rattle.std.specs.Prelude.{if◌then◌else◌}
use Rattle.std.specs.Option.{is_none}
use Rattle.streams.specs.Fields.{lines_of}
use Rattle.thread_plans.specs.Plans.{PlanValue, StageValue, empty, sized, started, working, ◌>>=◌, or_line, after_text, line_count, plan_in, stage_from, whole_plan}
use Rattle.thread_plans.specs.Wanted.{wanted, wanted_at_end}
use Rattle.thread_plans.specs.BadLines.{Naming, bad_lines, bad_said, count_one, said_from}
use Rattle.thread_plans.specs.Laws.{NothingIsSaid, RefusedIsNamed}

-- no line was bad yet
abbrev naming : StageValue → ℕ → Naming
naming s number = record { stage = Some s; number = number; bad = 0 }

-- this line is named first
abbrev pub NamesFirst : ℕ → List (List ℕ) → Type 0
NamesFirst number said = (why : List ℕ) × (rest : List (List ℕ)) × (said ≡ bad_said number (Some why) ++ rest)

module _ (past : ℕ) where
  said_step : (s : StageValue) (number : ℕ) (line : List ℕ) (lines : List (List ℕ)) (o : Option StageValue) →
      after_text s line ≡ o → said_from past (naming s number) (line ∷ lines) ≡
      bad_said number (if is_none o then Some (wanted s line) else None)
      ++ said_from past (record { stage = o; number = number + 1; bad = 0 + count_one (is_none o) }) lines
  said_step s number line lines o e =
      ap (λ (x : Option StageValue). bad_said number (if is_none x then Some (wanted s line) else None)
      ++ said_from past (record { stage = x; number = number + 1; bad = 0 + count_one (is_none x) }) lines) e

  stage_step : (s : StageValue) (number : ℕ) (line : List ℕ) (lines : List (List ℕ)) (o : Option StageValue) →
      after_text s line ≡ o → stage_from s number (line ∷ lines) ≡ (or_line number o >>=
      (λ next. stage_from next (number + 1) lines))
  stage_step s number line lines o e =
      ap (λ (x : Option StageValue). or_line number x >>= (λ next. stage_from next (number + 1) lines)) e

  -- lines none of which is bad
  all_good : (lines : List (List ℕ)) (s : StageValue) (number : ℕ) (end : StageValue) →
      stage_from s number lines ≡ Ok end → said_from past (naming s number) lines ≡ bad_said past (wanted_at_end end) ++ []
  all_good [] s number end e =
      let same : s ≡ end = cc in
      ap (λ x. bad_said past (wanted_at_end x) ++ []) same
  all_good (line ∷ lines) s number end e =
      at (λ next. all_good lines next (number + 1) end) (after_text s line) refl
    where
      at : ((next : StageValue) → stage_from next (number + 1) lines ≡ Ok end →
          said_from past (naming next (number + 1)) lines ≡ bad_said past (wanted_at_end end) ++ []) →
          (o : Option StageValue) → after_text s line ≡ o → said_from past (naming s number) (line ∷ lines) ≡
          bad_said past (wanted_at_end end) ++ []
      at rest None is = absurd (no_ok (sym (stage_step s number line lines None is) ∙ e))
        where
          no_ok : ◌≡◌ {A = Result StageValue ℕ} (Err number) (Ok end) → ⊥
          no_ok h = cc
      at rest (Some next) is =
          said_step s number line lines (Some next) is
          ∙ rest next (sym (stage_step s number line lines (Some next) is) ∙ e)

  -- lines of which one is bad
  first_bad : (lines : List (List ℕ)) (s : StageValue) (number bad : ℕ) → stage_from s number lines ≡ Err bad →
      NamesFirst bad (said_from past (naming s number) lines)
  first_bad [] s number bad e = absurd (no_err e)
    where
      no_err : ◌≡◌ {A = Result StageValue ℕ} (Ok s) (Err bad) → ⊥
      no_err h = cc
  first_bad (line ∷ lines) s number bad e =
      at (λ next. first_bad lines next (number + 1) bad) (after_text s line) refl
    where
      at : ((next : StageValue) → stage_from next (number + 1) lines ≡ Err bad →
          NamesFirst bad (said_from past (naming next (number + 1)) lines)) →
          (o : Option StageValue) → after_text s line ≡ o →
          NamesFirst bad (said_from past (naming s number) (line ∷ lines))
      at rest None is =
          let same : number ≡ bad = number_is (sym (stage_step s number line lines None is) ∙ e) in (
            wanted s line,
            said_from past (record { stage = None; number = number + 1; bad = 1 }) lines,
            said_step s number line lines None is
                ∙ ap (λ n. bad_said n (Some (wanted s line))
                ++ said_from past (record { stage = None; number = number + 1; bad = 1 }) lines) same,
          )
        where
          number_is : ◌≡◌ {A = Result StageValue ℕ} (Err number) (Err bad) → number ≡ bad
          number_is h = cc
      at rest (Some next) is =
          let later = rest next
          (sym (stage_step s number line lines (Some next) is) ∙ e) in
          (later.0, later.1, said_step s number line lines (Some next) is ∙ later.2)

number_is : (n m : ℕ) → ◌≡◌ {A = Result PlanValue ℕ} (Err n) (Err m) → n ≡ m
number_is n m h = cc

wanted_whole : (s : StageValue) (p : PlanValue) → whole_plan s ≡ Some p → wanted_at_end s ≡ None
wanted_whole empty p e = absurd cc
wanted_whole (sized n cap) p e = absurd cc
wanted_whole (started q) p e = refl
wanted_whole (working q b) p e = refl

wanted_early : (s : StageValue) → whole_plan s ≡ None → (why : List ℕ) × (wanted_at_end s ≡ Some why)
wanted_early empty e = (_, refl)
wanted_early (sized n cap) e = (_, refl)
wanted_early (started q) e = absurd cc
wanted_early (working q b) e = absurd cc

pub nothing_is_said : NothingIsSaid
unfolding bad_lines plan_in
nothing_is_said text p e = at (stage_from empty 1 (lines_of text)) refl e
  where
    past : ℕ
    past = line_count text + 1

    at : (r : Result StageValue ℕ) → stage_from empty 1 (lines_of text) ≡ r →
        (r >>= (λ s. or_line past (whole_plan s))) ≡ Ok p → said_from past (naming empty 1) (lines_of text) ≡ []
    at (Err n) is h = absurd cc
    at (Ok s) is h = whole (whole_plan s) refl h
      where
        whole : (o : Option PlanValue) → whole_plan s ≡ o → or_line past o ≡ Ok p →
            said_from past (naming empty 1) (lines_of text) ≡ []
        whole None none h = absurd cc
        whole (Some q) some h =
            all_good past (lines_of text) empty 1 s is
            ∙ ap (λ why. bad_said past why ++ []) (wanted_whole s q some)

pub refused_is_named : RefusedIsNamed
unfolding bad_lines plan_in
refused_is_named text number e = at (stage_from empty 1 (lines_of text)) refl e
  where
    past : ℕ
    past = line_count text + 1

    at : (r : Result StageValue ℕ) → stage_from empty 1 (lines_of text) ≡ r →
        (r >>= (λ s. or_line past (whole_plan s))) ≡ Err number →
        NamesFirst number (said_from past (naming empty 1) (lines_of text))
    at (Err n) is h =
        let same : n ≡ number = number_is n number h in
        first_bad past (lines_of text) empty 1 number (is ∙ ap (λ k. Err k) same)
    at (Ok s) is h = early (whole_plan s) refl h
      where
        early : (o : Option PlanValue) → whole_plan s ≡ o → or_line past o ≡ Err number →
            NamesFirst number (said_from past (naming empty 1) (lines_of text))
        early (Some q) some h = absurd cc
        early None none h =
            let why = wanted_early s none in
            let same : past ≡ number = cc in (
              why.0,
              [],
              all_good past (lines_of text) empty 1 s is ∙ ap (λ w. bad_said past w ++ []) why.1
                  ∙ ap (λ n. bad_said n (Some why.0) ++ []) same,
            )
