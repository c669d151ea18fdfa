use Rattle.std.proofs.Common.{◌+◌, ◌==◌, ◌≡◌, length, rules, tests, ap, sym, ◌∙◌}
use Rattle.std.proofs.lemmas.List.{length_push}
use Rattle.std.proofs.lemmas.Iterator.Consumers.{YieldsList-turn, YieldsList-end}
use Rattle.std.proofs.lemmas.Iterator.Splits.{YieldsList-from_slice_split}
use Rattle.streams.specs.Fields.{lines_of}
use Rattle.scripts.specs.Checking.{checking_of}
use Rattle.scripts.specs.Checks.{answered_text, checked_output, checked_lines, line_checked, line_said, settled}
use Rattle.scripts.proofs.Checks.{one_said, all_said, numbered}
use Rattle.scripts.proofs.Outputs.{one_more, none_left}
use Rattle.scripts.proofs.Schedules.{all_go_on, rest_goes_on}
use Rattle.scripts.proofs.check.checked_output_of.Goals as goal

pub loop-line-preserved : goal.loop-line-preserved
loop-line-preserved c =
    let turn = YieldsList-turn (YieldsList-from_slice_split _ (λ byte. byte == 10) c.args.script.now
    (search rules) (search rules) (search rules) (λ x r q k. search (rules, tests)))
    c.loop-line.yielded _ c.loop-line.yielded_by _ _ c.in-Some.line c.in-Some.is c.next.ensures.steps in
    let longer = length_push c.loop-line.yielded c.in-Some.line in
    let stepped : checking_of c.check_printing.new.check ≡ line_checked c.loop-line.world (checking_of c.loop-line.check)
    c.in-Some.line.now = search rules in
    record {
      counted = ap (λ s. s.number) stepped
          ∙ numbered c.loop-line.world (checking_of c.loop-line.check) c.in-Some.line.now
          ∙ ap (λ n. n + 1) c.loop-line.invariant.counted ∙ sym (ap (λ n. n + 1) longer);
      format = search rules;
      printed = one_more (checked_output c.args.form) (lines_of c.args.script.now) (length c.loop-line.yielded)
          c.loop-line.world
          c.check_printing.new.world _ c.in-Some.line.now
          c.loop-line.printed.bytes c.check_printing.new.printed.bytes _ turn.0 turn.1 longer
          c.loop-line.invariant.printed (search rules) (search rules);
      said = one_said line_said line_checked settled
          (lines_of c.args.script.now) (length c.loop-line.yielded)
          c.loop-line.world c.check_printing.new.world (checking_of c.loop-line.check)
          (checking_of c.check_printing.new.check) _
          c.in-Some.line.now c.loop-line.check.said c.check_printing.new.check.said _ turn.0 turn.1 longer
          c.loop-line.invariant.said (search rules) (search rules) (search rules);
      goes = rest_goes_on (lines_of c.args.script.now) (length c.loop-line.yielded) _ c.loop-line.world
          c.check_printing.new.world c.in-Some.line.now turn.0 turn.1 longer (search rules) (search rules)
          c.loop-line.invariant.goes;
    }

pub returns-clause-printed : goal.returns-clause-printed
unfolding answered_text
returns-clause-printed c =
    let end = YieldsList-end (YieldsList-from_slice_split _ (λ byte. byte == 10) c.args.script.now
    (search rules) (search rules) (search rules) (λ x r q k. search (rules, tests)))
    c.loop-line.yielded _ c.loop-line.yielded_by _ _ c.in-None.is c.next.ensures.steps in
    c.into_bytes.ensures
    ∙ none_left (checked_output c.args.form) (lines_of c.args.script.now) (length c.loop-line.yielded) c.loop-line.world
    c.loop-line.printed.bytes _ end.1 c.loop-line.invariant.printed

pub returns-clause-said : goal.returns-clause-said
unfolding checked_lines
returns-clause-said c =
    let end = YieldsList-end (YieldsList-from_slice_split _ (λ byte. byte == 10) c.args.script.now
    (search rules) (search rules) (search rules) (λ x r q k. search (rules, tests)))
    c.loop-line.yielded _ c.loop-line.yielded_by _ _ c.in-None.is c.next.ensures.steps in
    all_said line_said line_checked settled (lines_of c.args.script.now) (length c.loop-line.yielded) c.loop-line.world
    (checking_of c.loop-line.check) c.loop-line.check.said _ _ end.1 c.loop-line.invariant.said (search rules)

pub returns-clause-schedule : goal.returns-clause-schedule
returns-clause-schedule c =
    let end = YieldsList-end (YieldsList-from_slice_split _ (λ byte. byte == 10) c.args.script.now
    (search rules) (search rules) (search rules) (λ x r q k. search (rules, tests)))
    c.loop-line.yielded _ c.loop-line.yielded_by _ _ c.in-None.is c.next.ensures.steps in
    all_go_on (lines_of c.args.script.now) (length c.loop-line.yielded) c.loop-line.world end.1
    c.loop-line.invariant.goes
