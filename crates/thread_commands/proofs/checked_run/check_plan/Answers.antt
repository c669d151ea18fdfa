use Rattle.std.proofs.Common.{◌≡◌, ◌∙◌, ℕ, Result, ap, refl, rules, subst, sym}
use Rattle.std.specs.Prelude.{is_ok, IfOk}
use Rattle.answers.specs.declared.printed.Format.TheVariants as formats
use Rattle.thread_plans.specs.Plans.{PlanValue, plan_value}
use Rattle.thread_scripts.specs.Outputs.{IsJudged, judged_text}
use Rattle.thread_scripts.specs.Plays.{AreListsWaiting}
use Rattle.thread_checks.specs.Checked.{failed_lines, plan_with}
use Rattle.thread_commands.proofs.checked_run.check_plan.Goals as goal

pub returns-clause-ok : goal.returns-clause-ok
returns-clause-ok g c =
    let same : plan_value c.in_ok-plan.plan ≡ plan_with c.args.script.now (plan_value c.args.plan) =
    search rules in
    let played = c.in_ok-played.played in
    let judged = c.in_ok-judged.judged in
    let told = rw (
      c.deref.ensures.value,
      c.deref-2.ensures.value,
      c.deref-3.ensures.value,
      c.deref-4.ensures.value,
      c.deref-5.ensures.value,
      c.in_ok-lines.ensures,
      c.is_yes.ensures,
    ) at c.in_ok-said.ensures in
    record {
      plan = plan_value c.args.plan;
      waits = c.in_ok-waits.waits.awaits.items;
      vain = played.vain.items;
      judged = judged;
      read = search rules;
      legal = search (rules, same);
      waiting = c.in_ok-waits.ensures;
      given = subst (λ p. AreListsWaiting p c.in_ok-waits.waits.awaits.items played.lists.items
          (played.start_faults.items, played.faults.items) played.vain.items) same c.in_ok-played.ensures.lists;
      is_judged = subst (λ p. IsJudged p played.traces.items played.lists.items judged) same c.in_ok-judged.ensures;
      printed = c.in_ok-printed.ensures;
      failed = subst (λ p. c.in_ok-said.said ≡ failed_lines c.args.script.now p played.lists.items
          (played.start_faults.items, played.faults.items) played.vain.items (judged_text formats.Lines judged)
          (is_ok judged.verdict)) same told;
    }

pub returns-clause-size : goal.returns-clause-size
returns-clause-size g c =
    subst (λ (r : Result PlanValue ℕ). IfOk r (λ p. (p.nodes ≡ c.args.plan.size.nodes)
    × (p.cap ≡ c.args.plan.size.trace_cap))) (sym c.requires.plan) (refl, refl)

pub returns-clause-len : goal.returns-clause-len
returns-clause-len g c = c.in_ok-played.ensures.len ∙ ap (λ p. p.nodes) c.in_ok-plan.ensures
