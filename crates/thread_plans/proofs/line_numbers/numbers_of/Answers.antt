use Rattle.std.proofs.Common.{◌==◌, length, rules, tests, arith, refl}
use Rattle.std.proofs.lemmas.List.{length_push}
use Rattle.std.proofs.lemmas.Iterator.Consumers.{YieldsList-turn, YieldsList-end}
use Rattle.std.proofs.lemmas.Iterator.Splits.{YieldsList-from_slice_split}
use Rattle.streams.specs.Fields.{lines_of}
use Rattle.thread_plans.proofs.LineNumbers.{all_numbered, one_numbered}
use Rattle.thread_plans.proofs.line_numbers.numbers_of.Goals as goal

pub loop-line-preserved : goal.loop-line-preserved
loop-line-preserved c =
    let turn = YieldsList-turn (YieldsList-from_slice_split _ (λ byte. byte == 10) c.args.script.now
    (search rules) (search rules) (search rules) (λ x r q k. search (rules, tests)))
    c.loop-line.yielded _ c.loop-line.yielded_by _ _ c.in-Some.line c.in-Some.is c.next.ensures.steps in
    let longer = length_push c.loop-line.yielded c.in-Some.line in
    record {
      counted = omega arith;
      so_far = one_numbered c.args.kind (lines_of c.args.script.now) (length c.loop-line.yielded) c.loop-line.number
          _ _ c.in-Some.line.now c.loop-line.numbers.items _ _ turn.0 turn.1 longer c.loop-line.invariant.so_far
          (search rules) refl;
    }

pub returns : goal.returns
returns c =
    let end = YieldsList-end (YieldsList-from_slice_split _ (λ byte. byte == 10) c.args.script.now
    (search rules) (search rules) (search rules) (λ x r q k. search (rules, tests)))
    c.loop-line.yielded _ c.loop-line.yielded_by _ _ c.in-None.is c.next.ensures.steps in
    all_numbered c.args.kind (lines_of c.args.script.now) (length c.loop-line.yielded) c.loop-line.number
    c.loop-line.numbers.items _ end.1 c.loop-line.invariant.so_far
