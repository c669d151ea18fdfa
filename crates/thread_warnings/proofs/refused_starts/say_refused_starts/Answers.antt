use Rattle.std.proofs.Common.{◌≡◌, ◌+◌, ◌≤◌, ◌<◌, length, refl, rules, arith}
use Rattle.std.specs.Prelude.{is_some}
use Rattle.std.proofs.lemmas.Result.{on_ok_weaker}
use Rattle.thread_plans.specs.BadLines.{count_one}
use Rattle.thread_warnings.specs.RefusedStarts.{fault_at, refused_starts}
use Rattle.thread_warnings.proofs.RefusedStarts.{all_starts, one_start}
use Rattle.thread_warnings.proofs.Shorts.{no_more}
use Rattle.thread_warnings.proofs.refused_starts.say_refused_starts.Goals as goal

pub loop-number-preserved : goal.loop-number-preserved
loop-number-preserved c =
    let refused = c.args.refused.now in
    let place = c.loop-number.place in
    let named = c.loop-number.named in
    let was = c.loop-number.invariant in
    let within : place < length c.args.numbers.now = omega (arith, was.counted, c.loop-number-test.true) in
    let is : c.held_at-fault.result ≡ fault_at refused place = search (rules, within) in
    let counted : named + c.from-named.result ≡ named + count_one (is_some (fault_at refused place)) =
    rw (← is) (search rules) in
    record {
      counted = omega (arith, was.counted);
      few = no_more _ named place _ _ was.few counted refl;
      said = one_start refused c.args.numbers.now c.loop-number.number-index place named (place + 1)
          (named + c.from-named.result) _ c.loop-number.said c.say_start.new.said _
          c.loop-number-test.true was.said (rw (c.in_ok-say_start.was, is) at c.say_start.ensures) refl counted;
    }

pub returns : goal.returns
unfolding refused_starts
returns c =
    let past : length c.args.numbers.now ≤ c.loop-number.number-index = omega (arith, c.loop-number-test.false) in
    on_ok_weaker c.say_sum.result (λ grown. all_starts c.args.refused.now c.args.numbers.now c.loop-number.number-index
    c.loop-number.place c.loop-number.named c.loop-number.said c.say_sum.new.said _ past
    c.loop-number.invariant.said grown) c.say_sum.ensures
