use Rattle.std.proofs.Common.{◌==◌, length, rules, tests, ◌∙◌}
use Rattle.std.proofs.lemmas.List.{length_push}
use Rattle.std.proofs.lemmas.Iterator.Consumers.{YieldsList-turn, YieldsList-end}
use Rattle.std.proofs.lemmas.Iterator.Splits.{YieldsList-from_slice_split}
use Rattle.streams.specs.Fields.{lines_of}
use Rattle.scripts.specs.Written.{form_output}
use Rattle.scripts.proofs.Counting.{told_is}
use Rattle.scripts.proofs.Outputs.{one_more, none_left}
use Rattle.scripts.proofs.Schedules.{all_go_on, rest_goes_on}
use Rattle.scripts.proofs.script.output_of.Goals as goal

pub loop-line-preserved : goal.loop-line-preserved
loop-line-preserved c =
    let turn = YieldsList-turn (YieldsList-from_slice_split _ (λ byte. byte == 10) c.args.script.now
    (search rules) (search rules) (search rules) (λ x r q k. search (rules, tests)))
    c.loop-line.yielded _ c.loop-line.yielded_by _ _ c.in-Some.line c.in-Some.is c.next.ensures.steps in
    record {
      format = search rules;
      bytes = one_more (form_output c.args.form) (lines_of c.args.script.now) (length c.loop-line.yielded)
          c.loop-line.world c.print_line.new.world _ c.in-Some.line.now
          c.loop-line.out.bytes c.print_line.new.out.bytes _ turn.0 turn.1
          (length_push c.loop-line.yielded c.in-Some.line) c.loop-line.invariant.bytes (search rules) (search rules);
      goes = rest_goes_on (lines_of c.args.script.now) (length c.loop-line.yielded) _ c.loop-line.world
          c.print_line.new.world c.in-Some.line.now turn.0 turn.1
          (length_push c.loop-line.yielded c.in-Some.line) (search rules) (search rules) c.loop-line.invariant.goes;
    }

pub returns-clause-bytes : goal.returns-clause-bytes
returns-clause-bytes c =
    let end = YieldsList-end (YieldsList-from_slice_split _ (λ byte. byte == 10) c.args.script.now
    (search rules) (search rules) (search rules) (λ x r q k. search (rules, tests)))
    c.loop-line.yielded _ c.loop-line.yielded_by _ _ c.in-None.is c.next.ensures.steps in
    c.into_bytes.ensures
    ∙ none_left (form_output c.args.form) (lines_of c.args.script.now) (length c.loop-line.yielded) c.loop-line.world
    c.loop-line.out.bytes _ end.1 c.loop-line.invariant.bytes
    ∙ told_is c.args.form c.args.script.now

pub returns-clause-schedule : goal.returns-clause-schedule
returns-clause-schedule c =
    let end = YieldsList-end (YieldsList-from_slice_split _ (λ byte. byte == 10) c.args.script.now
    (search rules) (search rules) (search rules) (λ x r q k. search (rules, tests)))
    c.loop-line.yielded _ c.loop-line.yielded_by _ _ c.in-None.is c.next.ensures.steps in
    all_go_on (lines_of c.args.script.now) (length c.loop-line.yielded) c.loop-line.world end.1
    c.loop-line.invariant.goes
