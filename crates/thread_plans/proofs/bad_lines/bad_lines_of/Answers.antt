use Rattle.std.proofs.Common.{◌+◌, ◌-◌, ◌==◌, ◌≡◌, ◌++◌, cond, length, rules, tests, arith, ap, sym, ◌∙◌}
use Rattle.std.proofs.lemmas.List.{length_push}
use Rattle.std.proofs.lemmas.Result.{IfOk-weaker}
use Rattle.std.proofs.lemmas.Iterator.Consumers.{YieldsList-turn, YieldsList-end}
use Rattle.std.proofs.lemmas.Iterator.Splits.{YieldsList-from_slice_split}
use Rattle.streams.specs.Fields.{lines_of}
use Rattle.thread_plans.specs.BadLines.{after_named, bad_lines, end_said}
use Rattle.thread_plans.specs.Named.{naming_value}
use Rattle.thread_plans.specs.Plans.{ends_line, line_count}
use Rattle.thread_plans.proofs.Counts.{line_count-next}
use Rattle.thread_plans.proofs.Naming.{all_said, fewer, one_said}
use Rattle.thread_plans.proofs.bad_lines.bad_lines_of.Goals as goal

pub loop-line-preserved : goal.loop-line-preserved
loop-line-preserved c =
    let turn = YieldsList-turn (YieldsList-from_slice_split _ (λ byte. byte == 10) c.args.script.now
    (search rules) (search rules) (search rules) (λ x r q k. search (rules, tests)))
    c.loop-line.yielded _ c.loop-line.yielded_by _ _ c.in-Some.line c.in-Some.is c.next.ensures.steps in
    let longer = length_push c.loop-line.yielded c.in-Some.line in
    let was = naming_value c.loop-line.naming in
    let now = naming_value c.in_ok-naming.naming in
    let stepped : now ≡ after_named was c.in-Some.line.now = search rules in
    record {
      counted = ap (λ n. n.number) stepped ∙ ap (λ n. n + 1) c.loop-line.invariant.counted
          ∙ sym (ap (λ n. n + 1) longer);
      few = fewer _ c.loop-line.naming.bad c.loop-line.naming.number _ _ c.loop-line.invariant.few
          (ap (λ n. n.bad) stepped) (ap (λ n. n.number) stepped);
      said = one_said (lines_of c.args.script.now) (length c.loop-line.yielded) (line_count c.args.script.now + 1)
          was now _ c.in-Some.line.now c.loop-line.naming.said c.in_ok-naming.naming.said _
          turn.0 turn.1 longer c.loop-line.invariant.said (search rules) stepped;
    }

pub returns : goal.returns
unfolding bad_lines
returns c =
    let end = YieldsList-end (YieldsList-from_slice_split _ (λ byte. byte == 10) c.args.script.now
    (search rules) (search rules) (search rules) (λ x r q k. search (rules, tests)))
    c.loop-line.yielded _ c.loop-line.yielded_by _ _ c.in-None.is c.next.ensures.steps in
    let less : c.from.result ≡ cond (ends_line c.args.script.now) 1 0 = search rules in
    let past : line_count c.args.script.now + 1 ≡ c.loop-line.naming.number - c.from.result =
    line_count-next c.args.script.now c.loop-line.naming.number c.from.result (omega arith) less in
    let naming = naming_value c.loop-line.naming in
    let so_far = c.loop-line.naming.said in
    IfOk-weaker c.end.result _ _
    (λ said grown. all_said (lines_of c.args.script.now) (length c.loop-line.yielded) (line_count c.args.script.now + 1)
    naming so_far said _ end.1 c.loop-line.invariant.said
    (grown ∙ ap (λ next. so_far ++ end_said next naming) (sym past)))
    c.end.ensures
