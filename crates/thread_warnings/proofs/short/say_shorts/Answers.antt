use Rattle.std.proofs.Common.{◌≡◌, ◌+◌, ◌<◌, ◌≤◌, ◌++◌, length, nat_lt, slice_index_or, refl, rules, arith}
use Rattle.std.proofs.lemmas.Result.{on_ok_weaker}
use Rattle.thread_plans.specs.BadLines.{count_one}
use Rattle.thread_plans.specs.Plans.{block_value, plan_value}
use Rattle.thread_warnings.specs.Short.{number_at, short_of, short_said, shorts_lines}
use Rattle.thread_warnings.proofs.Shorts.{all_short, no_more, one_short}
use Rattle.thread_warnings.proofs.short.say_shorts.Goals as goal

pub loop-block-preserved : goal.loop-block-preserved
loop-block-preserved c =
    let plan = plan_value c.args.plan.now in
    let lists = c.args.lists.now in
    let numbers = c.args.numbers.now in
    let blocks = c.args.plan.now.blocks.items in
    let before = c.loop-block.before in
    let named = c.loop-block.named in
    let block = c.block-item.result in
    let was = c.loop-block.invariant in
    let below : c.loop-block.block-index < length blocks =
    rw c.deref-block-items.ensures.value at c.loop-block-test.true in
    let here : block ≡ slice_index_or blocks c.loop-block.block-index block =
    rw c.deref-block-items.ensures.value at c.block-item.is in
    let counted : named + c.from-named.result ≡ named + count_one
    (nat_lt 0 (short_of plan lists before (block_value block))) = search rules in
    let grown : c.say_short.new.said ≡ c.loop-block.said ++ short_said named (number_at numbers before)
    (short_of plan lists before (block_value block)) =
    rw (c.in_ok-say_short.was, c.number_at.ensures, c.short_of-short.ensures) at c.say_short.ensures in
    record {
      counted = omega (arith, was.counted);
      few = no_more _ named before _ _ was.few counted refl;
      said = one_short plan lists numbers blocks c.loop-block.block-index before named (before + 1)
          (named + c.from-named.result) block c.loop-block.said c.say_short.new.said _ below here was.said
          grown refl counted;
    }

pub returns : goal.returns
unfolding shorts_lines
returns c =
    let plan = plan_value c.args.plan.now in
    let blocks = c.args.plan.now.blocks.items in
    let past : length blocks ≤ c.loop-block.block-index =
    rw c.deref-block-items.ensures.value at c.loop-block-test.false in
    on_ok_weaker c.say_sum.result (λ grown. all_short plan c.args.lists.now c.args.numbers.now blocks
    c.loop-block.block-index c.loop-block.before c.loop-block.named c.loop-block.said c.say_sum.new.said _
    past c.loop-block.invariant.said grown) c.say_sum.ensures
