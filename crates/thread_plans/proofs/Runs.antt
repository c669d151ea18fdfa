-- Lines that are read one after the other, as far as they stand in their places.
use Rattle.std.proofs.Common.{◌≡◌, ℕ, suc, ◌+◌, ◌<◌, Bool, true, false, List, [], ◌∷◌, ◌++◌, length, take, Option, Some, None, Result, Ok, Err, refl, ap, ◌∙◌, arith}
use Rattle.std.specs.Prelude.{option_and_then, if◌then◌else◌}
use Rattle.streams.specs.Lines.{is_skipped}
use Rattle.thread_plans.specs.Lines.{LineValue, line_in}
use Rattle.thread_plans.specs.Plans.{StageValue, after_read, after_text, or_line, stage_from, ◌>>=◌}
use Rattle.thread_plans.specs.Grammar.{said}

-- ---- what lines come to that say this

abbrev pub comes : StageValue → List (Option LineValue) → Option StageValue
comes s [] = Some s
comes s (line ∷ lines) = option_and_then (λ next. comes next lines) (after_read s line)

further : {A : Type 0} (all first rest : A → Option A) → ((next : A) → all next ≡ option_and_then rest (first next)) →
    (o : Option A) →
    option_and_then all o ≡ option_and_then rest (option_and_then first o)
further all first rest each None = refl
further all first rest each (Some next) = each next

pub comes-append : (s : StageValue) (xs ys : List (Option LineValue)) →
    comes s (xs ++ ys) ≡ option_and_then (λ next. comes next ys) (comes s xs)
comes-append s [] ys = refl
comes-append s (x ∷ xs) ys =
    further (λ next. comes next (xs ++ ys)) (λ next. comes next xs) (λ next. comes next ys)
    (λ next. comes-append next xs ys) (after_read s x)

-- some lines, and then others
pub comes-then : (s mid : StageValue) (end : Option StageValue) (xs ys : List (Option LineValue)) →
    comes s xs ≡ Some mid → comes mid ys ≡ end → comes s (xs ++ ys) ≡ end
comes-then s mid end xs ys first rest = comes-append s xs ys ∙ ap (option_and_then (λ next. comes next ys)) first ∙ rest

-- ---- what lines come to

abbrev pub comes_to : StageValue → List (List ℕ) → Option StageValue
comes_to s [] = Some s
comes_to s (line ∷ lines) = option_and_then (λ next. comes_to next lines) (after_text s line)

pub comes_to-append : (s : StageValue) (xs ys : List (List ℕ)) →
    comes_to s (xs ++ ys) ≡ option_and_then (λ next. comes_to next ys) (comes_to s xs)
comes_to-append s [] ys = refl
comes_to-append s (x ∷ xs) ys =
    further (λ next. comes_to next (xs ++ ys)) (λ next. comes_to next xs) (λ next. comes_to next ys)
    (λ next. comes_to-append next xs ys) (after_text s x)

-- it is what those come to that aren't skipped
said_of : (lines : List (List ℕ)) → ((s : StageValue) → comes_to s lines ≡ comes s (said lines)) →
    (o : Option StageValue) →
    option_and_then (λ next. comes_to next lines) o ≡ option_and_then (λ next. comes next (said lines)) o
said_of lines rest None = refl
said_of lines rest (Some next) = rest next

said_at : (lines : List (List ℕ)) → ((s : StageValue) → comes_to s lines ≡ comes s (said lines)) →
    (s : StageValue) (line : Option LineValue) (skipped : Bool) →
    option_and_then (λ next. comes_to next lines) (if skipped then Some s else after_read s line) ≡ comes s
    (if skipped then said lines else line ∷ said lines)
said_at lines rest s line true = rest s
said_at lines rest s line false = said_of lines rest (after_read s line)

pub comes_to-said : (lines : List (List ℕ)) (s : StageValue) → comes_to s lines ≡ comes s (said lines)
comes_to-said [] s = refl
comes_to-said (line ∷ lines) s = said_at lines (λ s. comes_to-said lines s) s (line_in line) (is_skipped line)

-- ---- with the numbers of the lines

abbrev numbered : ℕ → List (List ℕ) → Option StageValue → Result StageValue ℕ
numbered number lines o = or_line number o >>= (λ next. stage_from next (number + 1) lines)

comes_at : (lines : List (List ℕ)) (end : StageValue) (number : ℕ) →
    ((s : StageValue) → comes_to s lines ≡ Some end → stage_from s (number + 1) lines ≡ Ok end) →
    (o : Option StageValue) →
    option_and_then (λ next. comes_to next lines) o ≡ Some end → numbered number lines o ≡ Ok end
comes_at lines end number rest None e = absurd cc
comes_at lines end number rest (Some next) e = rest next e

pub stage_from-comes : (lines : List (List ℕ)) (s end : StageValue) (number : ℕ) → comes_to s lines ≡ Some end →
    stage_from s number lines ≡ Ok end
stage_from-comes [] s end number e = let same : s ≡ end = cc in ap Ok same
stage_from-comes (line ∷ lines) s end number e = comes_at lines end number
    (λ s e. stage_from-comes lines s end (number + 1) e) (after_text s line) e

numbered_at : (lines : List (List ℕ)) (end : StageValue) (number : ℕ) →
    ((s : StageValue) → stage_from s (number + 1) lines ≡ Ok end → comes_to s lines ≡ Some end) →
    (o : Option StageValue) →
    numbered number lines o ≡ Ok end → option_and_then (λ next. comes_to next lines) o ≡ Some end
numbered_at lines end number rest None e = absurd cc
numbered_at lines end number rest (Some next) e = rest next e

pub comes-stage_from : (lines : List (List ℕ)) (s end : StageValue) (number : ℕ) → stage_from s number lines ≡ Ok end →
    comes_to s lines ≡ Some end
comes-stage_from [] s end number e = let same : s ≡ end = cc in ap Some same
comes-stage_from (line ∷ lines) s end number e = numbered_at lines end number
    (λ s e. comes-stage_from lines s end (number + 1) e) (after_text s line) e

-- the first line that doesn't stand in its place stands behind so many that do
pub record StopsAt (s : StageValue) (lines : List (List ℕ)) (n : ℕ) : Type 0 where
  pub there : n < length lines
  pub stage : StageValue
  pub before : comes_to s (take n lines) ≡ Some stage
  pub stops : comes_to s (take (suc n) lines) ≡ None

abbrev pub Stops : StageValue → List (List ℕ) → ℕ → ℕ → Type 0
Stops s lines number bad = (n : ℕ) × (bad ≡ number + n) × StopsAt s lines n

stops_at : (line : List ℕ) (lines : List (List ℕ)) (s : StageValue) (number bad : ℕ) →
    ((s : StageValue) → stage_from s (number + 1) lines ≡ Err bad → Stops s lines (number + 1) bad)
    → (o : Option StageValue) → after_text s line ≡ o → numbered number lines o ≡ Err bad →
    Stops s (line ∷ lines) number bad
stops_at line lines s number bad rest None is e =
    let same : number ≡ bad = cc in (
      0,
      omega (arith, same),
      record {
        there = omega arith;
        stage = s;
        before = refl;
        stops =
            ap (option_and_then (λ next. comes_to next (take 0 lines))) is;
      },
    )
stops_at line lines s number bad rest (Some next) is e =
    let found = rest next e in
    let stop = found.2 in
    let there = stop.there in
    let number_is = found.1 in (
      suc found.0,
      omega (arith, number_is),
      record {
        there = omega (arith, there);
        stage = stop.stage;
        before = ap (option_and_then (λ next. comes_to next (take found.0 lines))) is ∙ stop.before;
        stops = ap (option_and_then (λ next. comes_to next (take (suc found.0) lines))) is ∙ stop.stops;
      },
    )

pub stops-stage_from : (lines : List (List ℕ)) (s : StageValue) (number bad : ℕ) → stage_from s number lines ≡ Err bad →
    Stops s lines number bad
stops-stage_from [] s number bad e = absurd (let impossible : ◌≡◌ {A = Result StageValue ℕ} (Ok s) (Err bad) = e in cc)
stops-stage_from (line ∷ lines) s number bad e = stops_at line lines s number bad
    (λ s e. stops-stage_from lines s (number + 1) bad e) (after_text s line) refl e
