use Rattle.std.proofs.Common.{◌+◌, ◌==◌, ◌≡◌, length, rules, tests, ap, sym, ◌∙◌}
use Rattle.std.proofs.lemmas.List.{length_push}
use Rattle.std.proofs.lemmas.Iterator.Consumers.{YieldsList-turn, YieldsList-end}
use Rattle.std.proofs.lemmas.Iterator.Splits.{YieldsList-from_slice_split}
use Rattle.streams.specs.Fields.{lines_of}
use Rattle.thread_warnings.specs.Unfit.{line_counted, unfit_lines}
use Rattle.thread_warnings.specs.Unfits.{unfit_of}
use Rattle.thread_warnings.proofs.Unfits.{all_said, fewer, one_said}
use Rattle.thread_warnings.proofs.unfit.unfit_lines.Goals as goal

pub loop-line-preserved : goal.loop-line-preserved
loop-line-preserved c =
    let turn = YieldsList-turn (YieldsList-from_slice_split _ (λ byte. byte == 10) c.args.script.now
    (search rules) (search rules) (search rules) (λ x r q k. search (rules, tests)))
    c.loop-line.yielded _ c.loop-line.yielded_by _ _ c.in-Some.line c.in-Some.is c.next.ensures.steps in
    let longer = length_push c.loop-line.yielded c.in-Some.line in
    let stepped : unfit_of c.read.new.self ≡ line_counted (unfit_of c.loop-line.warning) c.in-Some.line.now =
    search rules in
    record {
      counted = ap (λ u. u.number) stepped ∙ ap (λ n. n + 1) c.loop-line.invariant.counted
          ∙ sym (ap (λ n. n + 1) longer);
      few = fewer _ c.loop-line.warning.unfit c.loop-line.warning.number _ _ c.loop-line.invariant.few
          (ap (λ u. u.unfit) stepped) (ap (λ u. u.number) stepped);
      said = one_said (lines_of c.args.script.now) (length c.loop-line.yielded) (unfit_of c.loop-line.warning)
          (unfit_of c.read.new.self) _ c.in-Some.line.now c.loop-line.warning.said c.read.new.self.said _
          turn.0 turn.1 longer c.loop-line.invariant.said (search rules) stepped;
    }

pub returns : goal.returns
unfolding unfit_lines
returns c =
    let end = YieldsList-end (YieldsList-from_slice_split _ (λ byte. byte == 10) c.args.script.now
    (search rules) (search rules) (search rules) (λ x r q k. search (rules, tests)))
    c.loop-line.yielded _ c.loop-line.yielded_by _ _ c.in-None.is c.next.ensures.steps in
    all_said (lines_of c.args.script.now) (length c.loop-line.yielded) (unfit_of c.loop-line.warning)
    c.loop-line.warning.said _ _ end.1 c.loop-line.invariant.said (search rules)
