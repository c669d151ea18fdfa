use Rattle.std.proofs.Common.{◌==◌, false, length, rules, tests, refl}
use Rattle.std.proofs.lemmas.List.{length_push}
use Rattle.std.proofs.lemmas.Iterator.Consumers.{YieldsList-turn, YieldsList-end}
use Rattle.std.proofs.lemmas.Iterator.Splits.{YieldsList-from_slice_split}
use Rattle.streams.specs.Fields.{lines_of}
use Rattle.thread_checks.specs.Views.{all_rounds, same_after, shown_rounds}
use Rattle.thread_checks.proofs.ByLines.{all_shown, one_shown}
use Rattle.thread_checks.proofs.views.all_rounds.Goals as goal

pub loop-line-preserved : goal.loop-line-preserved
loop-line-preserved c =
    let turn = YieldsList-turn (YieldsList-from_slice_split _ (λ byte. byte == 10) c.args.script.now
    (search rules) (search rules) (search rules) (λ x r q k. search (rules, tests)))
    c.loop-line.yielded _ c.loop-line.yielded_by _ _ c.in-Some.line c.in-Some.is c.next.ensures.steps in
    let longer = length_push c.loop-line.yielded c.in-Some.line in
    record {
      so_far = one_shown (shown_rounds c.args.meant.now) same_after (lines_of c.args.script.now) (length c.loop-line.yielded)
          false _ _ c.in-Some.line.now c.loop-line.rounds.items _ _ turn.0 turn.1 longer
          c.loop-line.invariant.so_far (search rules) refl;
    }

pub returns : goal.returns
unfolding all_rounds
returns c =
    let end = YieldsList-end (YieldsList-from_slice_split _ (λ byte. byte == 10) c.args.script.now
    (search rules) (search rules) (search rules) (λ x r q k. search (rules, tests)))
    c.loop-line.yielded _ c.loop-line.yielded_by _ _ c.in-None.is c.next.ensures.steps in
    all_shown (shown_rounds c.args.meant.now) same_after (lines_of c.args.script.now) (length c.loop-line.yielded)
    false c.loop-line.rounds.items _ end.1 c.loop-line.invariant.so_far
