-- What one line of a script comes to, and the lines after it.
use Rattle.std.proofs.Common.{◌≡◌, ℕ, ◌+◌, ◌<◌, List, length, get_or, drop, Option, Some, None, Result, Ok, Err, sym, ap, ◌∙◌, arith}
use Rattle.std.proofs.lemmas.List.{at_drop_more, at_drop_all}
use Rattle.streams.specs.Fields.{lines_of}
use Rattle.thread_plans.specs.Plans.{PlanValue, StageValue, empty, ◌>>=◌, or_line, after_text, stage_from, whole_plan, line_count, plan_in}

module _ (lines : List (List ℕ)) (n : ℕ) (s : StageValue) (number : ℕ) where
  stage_from-drop : (line : List ℕ) → n < length lines → line ≡ get_or lines n line →
      stage_from s number (drop n lines) ≡ (or_line number (after_text s line) >>=
      (λ next. stage_from next (number + 1) (drop (n + 1) lines)))
  stage_from-drop line h e =
      at_drop_more (stage_from s number) lines n line h
      ∙ ap (λ x. or_line number (after_text s x) >>= (λ next. stage_from next (number + 1) (drop (n + 1) lines)))
      (sym e)

  -- a line that stands in its place
  pub one_more : (next : StageValue) (m following : ℕ) (line : List ℕ) (all : Result StageValue ℕ) →
      n < length lines → line ≡ get_or lines n line → m ≡ n + 1 → following ≡ number + 1 →
      stage_from s number (drop n lines) ≡ all → Some next ≡ after_text s line →
      stage_from next following (drop m lines) ≡ all
  one_more next m following line all h e last counted so_far good =
      let here = stage_from-drop line h e in
      rw (last, counted) (sym (rw (← good) at here) ∙ so_far)

  -- a line that is bad
  pub first_bad : (line : List ℕ) (all : Result StageValue ℕ) →
      n < length lines → line ≡ get_or lines n line →
      stage_from s number (drop n lines) ≡ all → None ≡ after_text s line → all ≡ Err number
  first_bad line all h e so_far bad =
      let here = stage_from-drop line h e in
      sym so_far ∙ rw (← bad) at here

  -- after the last line
  pub all_good : (all : Result StageValue ℕ) → n ≡ length lines →
      stage_from s number (drop n lines) ≡ all → all ≡ Ok s
  all_good all e so_far = sym so_far ∙ at_drop_all (stage_from s number) lines n (omega arith)

-- ---- the plan of a script, or its bad line

pub plan_in-whole : (text : List ℕ) (s : StageValue) (plan : PlanValue) →
    stage_from empty 1 (lines_of text) ≡ Ok s → Some plan ≡ whole_plan s → plan_in text ≡ Ok plan
unfolding plan_in
plan_in-whole text s plan e whole = rw (e, ← whole)

pub plan_in-seedless : (text : List ℕ) (s : StageValue) (line : ℕ) →
    stage_from empty 1 (lines_of text) ≡ Ok s → None ≡ whole_plan s → line_count text + 1 ≡ line →
    plan_in text ≡ Err line
unfolding plan_in
plan_in-seedless text s line e none next = rw (e, ← none, next)

pub plan_in-bad : (text : List ℕ) (line : ℕ) → stage_from empty 1 (lines_of text) ≡ Err line →
    plan_in text ≡ Err line
unfolding plan_in
plan_in-bad text line e = rw e
