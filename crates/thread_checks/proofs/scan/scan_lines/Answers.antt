use Rattle.std.proofs.Common.{◌==◌, ◌≡◌, ◌+◌, length, rules, tests, ap, sym, ◌∙◌}
use Rattle.std.proofs.lemmas.List.{length_push}
use Rattle.std.proofs.lemmas.Iterator.Consumers.{YieldsList-turn, YieldsList-end}
use Rattle.std.proofs.lemmas.Iterator.Splits.{YieldsList-from_slice_split}
use Rattle.streams.specs.Fields.{lines_of}
use Rattle.thread_checks.specs.Scanned.{scan_value}
use Rattle.thread_checks.specs.Scans.{after_scanned, scan_said, scan_lines}
use Rattle.thread_checks.proofs.ByLines.{all_shown, one_shown}
use Rattle.thread_checks.proofs.scan.scan_lines.Goals as goal

pub loop-line-preserved : goal.loop-line-preserved
loop-line-preserved c =
    let turn = YieldsList-turn (YieldsList-from_slice_split _ (λ byte. byte == 10) c.args.script.now
    (search rules) (search rules) (search rules) (λ x r q k. search (rules, tests)))
    c.loop-line.yielded _ c.loop-line.yielded_by _ _ c.in-Some.line c.in-Some.is c.next.ensures.steps in
    let longer = length_push c.loop-line.yielded c.in-Some.line in
    let stepped : scan_value c.after-scan.result ≡ after_scanned (scan_value c.loop-line.scan) c.in-Some.line.now =
    search rules in
    record {
      counted = ap (λ s. s.number) stepped ∙ ap (λ n. n + 1) c.loop-line.invariant.counted
          ∙ sym (ap (λ n. n + 1) longer);
      so_far = one_shown (scan_said c.args.vain.now c.args.printed.now) after_scanned (lines_of c.args.script.now)
          (length c.loop-line.yielded) (scan_value c.loop-line.scan) _ _ c.in-Some.line.now c.loop-line.said _ _
          turn.0 turn.1 longer c.loop-line.invariant.so_far (search rules) stepped;
    }

pub returns : goal.returns
unfolding scan_lines
returns c =
    let end = YieldsList-end (YieldsList-from_slice_split _ (λ byte. byte == 10) c.args.script.now
    (search rules) (search rules) (search rules) (λ x r q k. search (rules, tests)))
    c.loop-line.yielded _ c.loop-line.yielded_by _ _ c.in-None.is c.next.ensures.steps in
    all_shown (scan_said c.args.vain.now c.args.printed.now) after_scanned (lines_of c.args.script.now)
    (length c.loop-line.yielded) (scan_value c.loop-line.scan) c.loop-line.said _ end.1
    c.loop-line.invariant.so_far
