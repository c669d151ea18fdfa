-- What is read of a script of threads is what the grammar says.
use Rattle.std.proofs.Common.{◌≡◌, ◌⊎◌, inl, inr, ℕ, suc, ◌+◌, ◌<◌, ◌≤◌, List, [], ◌∷◌, ◌++◌, take, drop, replicate, codes, Option, Some, None, Result, Ok, Err, refl, sym, ap, ◌∙◌, subst, arith, append_assoc, append-nil, take-append-drop, take-take}
use Rattle.std.specs.Prelude.{option_and_then}
use Rattle.std.proofs.lemmas.Bool.{cases_lt}
use lib.Utf8.{encode}
use Rattle.std.specs.Str.{is_utf8, chars}
use Rattle.hex.specs.Hex.{decode_pairs}
use Rattle.streams.specs.Fields.{lines_of}
use Rattle.thread_plans.specs.Plans.{PlanValue, StageValue, empty, sized, started, working, line_count, new_plan, or_line, plan_in, stage_from, whole_plan, with_block, ◌>>=◌}
use Rattle.thread_plans.specs.Grammar.{ArePlan, BeginPlan, IsFirstBad, IsRefusedAt, IsScriptOf, said}
use Rattle.thread_plans.proofs.Runs.{StopsAt, comes, comes_to, comes_to-append, comes_to-said, comes-stage_from, stage_from-comes, stops-stage_from}
use Rattle.thread_plans.proofs.Readings.{plan_in-whole}
use Rattle.thread_plans.proofs.Spelled.{is_spelled}
use Rattle.thread_plans.proofs.Planned.{plan_comes}

-- ---- lines of a plan

-- lines come to a plan
pub record Reach (lines : List (List ℕ)) (p : PlanValue) : Type 0 where
  pub end : StageValue
  pub come : comes_to empty lines ≡ Some end
  pub whole : whole_plan end ≡ Some p

pub reach : (lines : List (List ℕ)) (p : PlanValue) → ArePlan lines p → Reach lines p
reach lines p are =
    let so = plan_comes p are.0 in
    record { end = so.end; come = comes_to-said lines empty ∙ ap (comes empty) are.1 ∙ so.come; whole = so.whole }

pub reached : (lines : List (List ℕ)) (p : PlanValue) → Reach lines p → ArePlan lines p
reached lines p so = is_spelled (said lines) so.end p (sym (comes_to-said lines empty) ∙ so.come) so.whole

-- ---- lines that a plan begins with

abbrev nodes_text : List ℕ
nodes_text = codes "nodes 1 0"

abbrev seed_text : List ℕ
seed_text = codes "seed 0000000000000000000000000000000000000000000000000000000000000000"

abbrev zeros : List ℕ
zeros = replicate 32 0

-- every stage comes to a plan by some lines more
pub record MayEnd (s : StageValue) : Type 0 where
  pub more : List (List ℕ)
  pub end : StageValue
  pub plan : PlanValue
  pub come : comes_to s more ≡ Some end
  pub whole : whole_plan end ≡ Some plan

may_end : (s : StageValue) → MayEnd s
unfolding is_utf8 chars encode decode_pairs
may_end empty = record {
  more = nodes_text ∷ seed_text ∷ [];
  end = started (new_plan 1 0 zeros);
  plan =
      new_plan 1 0 zeros;
  come = refl;
  whole = refl;
}
may_end (sized n most) = record {
  more = seed_text ∷ [];
  end = started (new_plan n most zeros);
  plan =
      new_plan n most zeros;
  come = refl;
  whole = refl;
}
may_end (started p) = record { more = []; end = started p; plan = p; come = refl; whole = refl }
may_end (working p b) = record { more = []; end = working p b; plan = with_block p b; come = refl; whole = refl }

begins : (lines : List (List ℕ)) (s : StageValue) → comes_to empty lines ≡ Some s → BeginPlan lines
begins lines s e =
    let so = may_end s in
    let all = comes_to-append empty lines so.more ∙ ap (option_and_then (λ next. comes_to next so.more)) e ∙ so.come in
    (so.more, so.plan, reached (lines ++ so.more) so.plan (record { end = so.end; come = all; whole = so.whole }))

-- no plan begins with lines of which one stands out of its place
no_end : (o : Option StageValue) (more : List (List ℕ)) (end : StageValue) → o ≡ None →
    option_and_then (λ next. comes_to next more) o ≡ Some end → ⊥
no_end None more end e h = cc
no_end (Some s) more end e h = cc

begins_not : (lines : List (List ℕ)) → comes_to empty lines ≡ None → BeginPlan lines → ⊥
begins_not lines none h =
    let so = reach (lines ++ h.0) h.1 h.2 in
    no_end (comes_to empty lines) h.0 so.end none (sym (comes_to-append empty lines h.0) ∙ so.come)

-- a plan that begins with all lines begins with the first of them
begins_less : (lines : List (List ℕ)) (n : ℕ) → BeginPlan lines → BeginPlan (take n lines)
begins_less lines n h =
    let same : take n lines ++ (drop n lines ++ h.0) ≡ lines ++ h.0 =
    sym (append_assoc (take n lines) (drop n lines) h.0) ∙ ap (λ ls. ls ++ h.0) (take-append-drop n lines) in
    (drop n lines ++ h.0, h.1, subst (λ (ls : List (List ℕ)). ArePlan ls h.1) (sym same) h.2)

-- ---- what is read of a text

pub record IsRead (text : List ℕ) (p : PlanValue) : Type 0 where
  pub stage : StageValue
  pub come : comes_to empty (lines_of text) ≡ Some stage
  pub whole : whole_plan stage ≡ Some p

-- by what its lines come to, and whether that is a plan
by_stage : (text : List ℕ) (p : PlanValue) (r : Result StageValue ℕ) → stage_from empty 1 (lines_of text) ≡ r
    → (r >>= (λ stage. or_line (line_count text + 1) (whole_plan stage))) ≡ Ok p → IsRead text p
by_stage text p (Err line) is e = absurd cc
by_stage text p (Ok s) is e = record {
  stage = s;
  come = comes-stage_from (lines_of text) empty s 1 is;
  whole =
      whole (whole_plan s) e;
}
  where
    whole : (o : Option PlanValue) → or_line (line_count text + 1) o ≡ Ok p → o ≡ Some p
    whole None e = absurd cc
    whole (Some q) e = let same : q ≡ p = cc in ap (λ r. Some r) same

pub plan_read : (text : List ℕ) (p : PlanValue) → plan_in text ≡ Ok p → IsScriptOf text p
unfolding plan_in
plan_read text p e =
    let so = by_stage text p (stage_from empty 1 (lines_of text)) refl e in
    reached (lines_of text) p (record { end = so.stage; come = so.come; whole = so.whole })

pub read_plan : (text : List ℕ) (p : PlanValue) → IsScriptOf text p → plan_in text ≡ Ok p
read_plan text p is =
    let so = reach (lines_of text) p is in
    plan_in-whole text so.end p (stage_from-comes (lines_of text) empty so.end 1 so.come) (sym so.whole)

pub one_plan : (text : List ℕ) (p q : PlanValue) → IsScriptOf text p → IsScriptOf text q → p ≡ q
one_plan text p q is also =
    let same : ◌≡◌ {A = Result PlanValue ℕ} (Ok p) (Ok q) = sym (read_plan text p is) ∙ read_plan text q also in
    cc

-- ---- what is refused of it

first_bad : (lines : List (List ℕ)) (n : ℕ) → StopsAt empty lines n → IsFirstBad lines n
first_bad lines n so =
    let next : suc n ≡ n + 1 = omega arith in
    record {
      there = so.there;
      before = begins (take n lines) so.stage so.before;
      bad = begins_not (take (n + 1) lines) (subst (λ (k : ℕ). comes_to empty (take k lines) ≡ None) next so.stops);
    }

by_refusal : (text : List ℕ) (number : ℕ) (r : Result StageValue ℕ) → stage_from empty 1 (lines_of text) ≡ r
    → (r >>= (λ stage. or_line (line_count text + 1) (whole_plan stage))) ≡ Err number → IsRefusedAt text number
by_refusal text number (Err line) is e =
    let found = stops-stage_from (lines_of text) empty 1 line is in
    let same : line ≡ number = cc in
    let line_is = found.1 in
    inl (found.0, omega (arith, same, line_is), first_bad (lines_of text) found.0 found.2)
by_refusal text number (Ok s) is e = at (whole_plan s) refl e
  where
    at : (o : Option PlanValue) → whole_plan s ≡ o → or_line (line_count text + 1) o ≡ Err number →
        IsRefusedAt text number
    at (Some q) none e = absurd cc
    at None none e =
        let came = comes-stage_from (lines_of text) empty s 1 is in
        let same : line_count text + 1 ≡ number = cc in
        inr (
          sym same,
          record {
            begun = begins (lines_of text) s came;
            none = λ p are.
                let so = reach (lines_of text) p are in
                let ends : ◌≡◌ {A = Option StageValue} (Some so.end) (Some s) = sym so.come ∙ came in
                let end_is : so.end ≡ s = cc in
                let impossible : ◌≡◌ {A = Option PlanValue} (Some p) None = sym so.whole ∙ ap whole_plan end_is ∙
                none in
                cc;
          },
        )

pub line_refused : (text : List ℕ) (number : ℕ) → plan_in text ≡ Err number → IsRefusedAt text number
unfolding plan_in
line_refused text number e = by_refusal text number (stage_from empty 1 (lines_of text)) refl e

-- no text is refused that is a script of a plan
not_both : (text : List ℕ) (p : PlanValue) (number : ℕ) → IsScriptOf text p → IsRefusedAt text number → ⊥
not_both text p number is (inr early) = early.1.none p is
not_both text p number is (inl found) =
    found.2.bad (begins_less (lines_of text) (found.0 + 1) (
      [],
      p,
      subst (λ (ls : List (List ℕ)). ArePlan ls p) (sym (append-nil (lines_of text))) is,
    ))

-- and none at two lines
no_sooner : (lines : List (List ℕ)) (n m : ℕ) → n < m → IsFirstBad lines n → IsFirstBad lines m → ⊥
no_sooner lines n m less first second =
    first.bad (subst BeginPlan (take-take (n + 1) m lines (omega (arith, less)))
    (begins_less (take m lines) (n + 1) second.before))

one_line : (text : List ℕ) (a b : ℕ) → IsRefusedAt text a → IsRefusedAt text b → a ≡ b
one_line text a b (inr early) (inr also) = early.0 ∙ sym also.0
one_line text a b (inl found) (inr early) = absurd (found.2.bad
    (begins_less (lines_of text) (found.0 + 1) early.1.begun))
one_line text a b (inr early) (inl found) = absurd (found.2.bad
    (begins_less (lines_of text) (found.0 + 1) early.1.begun))
one_line text a b (inl found) (inl also) = at (cases_lt found.0 also.0) (cases_lt also.0 found.0)
  where
    at : (found.0 < also.0) ⊎ (also.0 ≤ found.0) → (also.0 < found.0) ⊎ (found.0 ≤ also.0) → a ≡ b
    at (inl less) q = absurd (no_sooner (lines_of text) found.0 also.0 less found.2 also.2)
    at (inr high) (inl less) = absurd (no_sooner (lines_of text) also.0 found.0 less also.2 found.2)
    at (inr high) (inr low) = let p = found.1 in let q = also.1 in omega (arith, high, low, p, q)

pub refused_line : (text : List ℕ) (number : ℕ) → IsRefusedAt text number → plan_in text ≡ Err number
refused_line text number is = at (plan_in text) refl
  where
    at : (r : Result PlanValue ℕ) → plan_in text ≡ r → r ≡ Err number
    at (Ok p) e = absurd (not_both text p number (plan_read text p e) is)
    at (Err other) e = ap (λ n. Err n) (one_line text other number (line_refused text other e) is)
