use Rattle.std.proofs.Common.{◌+◌, ◌==◌, ◌≡◌, length, rules, tests, ap, sym, ◌∙◌}
use Rattle.std.proofs.lemmas.List.{length_push}
use Rattle.std.proofs.lemmas.Iterator.Consumers.{YieldsList-turn, YieldsList-end}
use Rattle.std.proofs.lemmas.Iterator.Splits.{YieldsList-from_slice_split}
use Rattle.streams.specs.Fields.{lines_of}
use Rattle.scripts.specs.Warned.{warned_of}
use Rattle.scripts.specs.Warnings.{after_warned, line_warned, warned_lines, warned_sums}
use Rattle.scripts.specs.Written.{form_output}
use Rattle.scripts.proofs.Checks.{one_said, all_said}
use Rattle.scripts.proofs.Counting.{fewer, told_is}
use Rattle.scripts.proofs.Outputs.{one_more, none_left}
use Rattle.scripts.proofs.Schedules.{all_go_on, rest_goes_on}
use Rattle.scripts.proofs.warn.warned_output_of.Goals as goal

pub loop-line-preserved : goal.loop-line-preserved
loop-line-preserved c =
    let turn = YieldsList-turn (YieldsList-from_slice_split _ (λ byte. byte == 10) c.args.script.now
    (search rules) (search rules) (search rules) (λ x r q k. search (rules, tests)))
    c.loop-line.yielded _ c.loop-line.yielded_by _ _ c.in-Some.line c.in-Some.is c.next.ensures.steps in
    let longer = length_push c.loop-line.yielded c.in-Some.line in
    let stepped : warned_of c.warn_printing.new.warning ≡ after_warned c.loop-line.world (warned_of c.loop-line.warning)
    c.in-Some.line.now = search rules in
    record {
      counted = ap (λ s. s.number) stepped ∙ ap (λ n. n + 1) c.loop-line.invariant.counted
          ∙ sym (ap (λ n. n + 1) longer);
      few_bad = fewer _ c.loop-line.warning.bad c.loop-line.warning.number _ _ c.loop-line.invariant.few_bad
          (ap (λ s. s.bad) stepped) (ap (λ s. s.number) stepped);
      few_unset = fewer _ c.loop-line.warning.unset c.loop-line.warning.number _ _ c.loop-line.invariant.few_unset
          (ap (λ s. s.unset) stepped) (ap (λ s. s.number) stepped);
      format = search rules;
      printed = one_more (form_output c.args.form) (lines_of c.args.script.now) (length c.loop-line.yielded)
          c.loop-line.world
          c.warn_printing.new.world _ c.in-Some.line.now
          c.loop-line.printed.bytes c.warn_printing.new.printed.bytes _ turn.0 turn.1 longer
          c.loop-line.invariant.printed (search rules) (search rules);
      said = one_said line_warned after_warned warned_sums
          (lines_of c.args.script.now) (length c.loop-line.yielded)
          c.loop-line.world c.warn_printing.new.world (warned_of c.loop-line.warning)
          (warned_of c.warn_printing.new.warning) _
          c.in-Some.line.now c.loop-line.warning.said c.warn_printing.new.warning.said _ turn.0 turn.1 longer
          c.loop-line.invariant.said (search rules) (search rules) (search rules);
      goes = rest_goes_on (lines_of c.args.script.now) (length c.loop-line.yielded) _ c.loop-line.world
          c.warn_printing.new.world c.in-Some.line.now turn.0 turn.1 longer (search rules) (search rules)
          c.loop-line.invariant.goes;
    }

pub returns-clause-printed : goal.returns-clause-printed
returns-clause-printed c =
    let end = YieldsList-end (YieldsList-from_slice_split _ (λ byte. byte == 10) c.args.script.now
    (search rules) (search rules) (search rules) (λ x r q k. search (rules, tests)))
    c.loop-line.yielded _ c.loop-line.yielded_by _ _ c.in-None.is c.next.ensures.steps in
    c.into_bytes.ensures
    ∙ none_left (form_output c.args.form) (lines_of c.args.script.now) (length c.loop-line.yielded) c.loop-line.world
    c.loop-line.printed.bytes _ end.1 c.loop-line.invariant.printed
    ∙ told_is c.args.form c.args.script.now

pub returns-clause-said : goal.returns-clause-said
unfolding warned_lines
returns-clause-said c =
    let end = YieldsList-end (YieldsList-from_slice_split _ (λ byte. byte == 10) c.args.script.now
    (search rules) (search rules) (search rules) (λ x r q k. search (rules, tests)))
    c.loop-line.yielded _ c.loop-line.yielded_by _ _ c.in-None.is c.next.ensures.steps in
    all_said line_warned after_warned warned_sums (lines_of c.args.script.now) (length c.loop-line.yielded)
    c.loop-line.world (warned_of c.loop-line.warning) c.loop-line.warning.said _ _ end.1
    c.loop-line.invariant.said (search rules)

pub returns-clause-schedule : goal.returns-clause-schedule
returns-clause-schedule c =
    let end = YieldsList-end (YieldsList-from_slice_split _ (λ byte. byte == 10) c.args.script.now
    (search rules) (search rules) (search rules) (λ x r q k. search (rules, tests)))
    c.loop-line.yielded _ c.loop-line.yielded_by _ _ c.in-None.is c.next.ensures.steps in
    all_go_on (lines_of c.args.script.now) (length c.loop-line.yielded) c.loop-line.world end.1
    c.loop-line.invariant.goes
