use Rattle.std.proofs.Common.{◌≡◌, ◌==◌, ◌-◌, length, rules, tests, arith, cond, refl}
use Rattle.std.proofs.lemmas.List.{length_push}
use Rattle.std.proofs.lemmas.Iterator.Consumers.{YieldsList-turn, YieldsList-end}
use Rattle.std.proofs.lemmas.Iterator.Splits.{YieldsList-from_slice_split}
use Rattle.streams.specs.Fields.{lines_of}
use Rattle.thread_plans.specs.Plans.{stage_value, plan_value, ends_line}
use Rattle.thread_plans.proofs.Counts.{line_count-next}
use Rattle.thread_plans.proofs.Grammars.{line_refused, plan_read}
use Rattle.thread_plans.proofs.Readings.{one_more, first_bad, all_good, plan_in-bad, plan_in-seedless, plan_in-whole}
use Rattle.thread_plans.proofs.reading.read_plan.Goals as goal

pub returns-in_default-clause-bad : goal.returns-in_default-clause-bad
returns-in_default-clause-bad c = λ line e.
    let turn = YieldsList-turn (YieldsList-from_slice_split _ (λ byte. byte == 10) c.args.script.now
    (search rules) (search rules) (search rules) (λ x r q k. search (rules, tests)))
    c.loop-line.yielded _ c.loop-line.yielded_by _ _ c.in-Some.line c.in-Some.is c.next.ensures.steps in
    let same : c.loop-line.number ≡ line = cc in
    rw (← same) (plan_in-bad c.args.script.now c.loop-line.number (
    first_bad (lines_of c.args.script.now) (length c.loop-line.yielded) (stage_value c.loop-line.stage)
    c.loop-line.number
    c.in-Some.line.now _ turn.0 turn.1 c.loop-line.invariant.so_far (search rules)
    ))

pub loop-line-preserved : goal.loop-line-preserved
loop-line-preserved c =
    let turn = YieldsList-turn (YieldsList-from_slice_split _ (λ byte. byte == 10) c.args.script.now
    (search rules) (search rules) (search rules) (λ x r q k. search (rules, tests)))
    c.loop-line.yielded _ c.loop-line.yielded_by _ _ c.in-Some.line c.in-Some.is c.next.ensures.steps in
    let longer = length_push c.loop-line.yielded c.in-Some.line in
    record {
      counted = omega arith;
      so_far = one_more (lines_of c.args.script.now) (length c.loop-line.yielded) (stage_value c.loop-line.stage)
          c.loop-line.number
          (stage_value c.in-Some-2.next) _ _ c.in-Some.line.now _ turn.0 turn.1 longer refl c.loop-line.invariant.so_far
          (search rules);
    }

pub returns-in-Some-3-clause-ok : goal.returns-in-Some-3-clause-ok
returns-in-Some-3-clause-ok c =
    let end = YieldsList-end (YieldsList-from_slice_split _ (λ byte. byte == 10) c.args.script.now
    (search rules) (search rules) (search rules) (λ x r q k. search (rules, tests)))
    c.loop-line.yielded _ c.loop-line.yielded_by _ _ c.in-None.is c.next.ensures.steps in
    plan_in-whole c.args.script.now (stage_value c.loop-line.stage) (plan_value c.in-Some-3.plan)
    (all_good (lines_of c.args.script.now) (length c.loop-line.yielded) _ c.loop-line.number _ end.1
    c.loop-line.invariant.so_far)
    (search rules)

pub returns-in-None-2-clause-bad : goal.returns-in-None-2-clause-bad
returns-in-None-2-clause-bad c = λ line e.
    let end = YieldsList-end (YieldsList-from_slice_split _ (λ byte. byte == 10) c.args.script.now
    (search rules) (search rules) (search rules) (λ x r q k. search (rules, tests)))
    c.loop-line.yielded _ c.loop-line.yielded_by _ _ c.in-None.is c.next.ensures.steps in
    let same : c.loop-line.number - c.from.result ≡ line = cc in
    let less : c.from.result ≡ cond (ends_line c.args.script.now) 1 0 = search rules in
    rw (← same) (plan_in-seedless c.args.script.now (stage_value c.loop-line.stage) _
    (all_good (lines_of c.args.script.now) (length c.loop-line.yielded) _ c.loop-line.number _ end.1
    c.loop-line.invariant.so_far)
    (search rules) (line_count-next c.args.script.now c.loop-line.number c.from.result (omega arith) less))

pub returns-in_default-clause-refused : goal.returns-in_default-clause-refused
returns-in_default-clause-refused c = λ line e. line_refused c.args.script.now line
    (returns-in_default-clause-bad c line e)

pub returns-in-Some-3-clause-plan : goal.returns-in-Some-3-clause-plan
returns-in-Some-3-clause-plan c = plan_read c.args.script.now (plan_value c.in-Some-3.plan)
    (returns-in-Some-3-clause-ok c)

pub returns-in-None-2-clause-refused : goal.returns-in-None-2-clause-refused
returns-in-None-2-clause-refused c = λ line e. line_refused c.args.script.now line
    (returns-in-None-2-clause-bad c line e)
