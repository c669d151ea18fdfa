use Rattle.std.proofs.Common.{◌≡◌, ◌+◌, ◌++◌, ◌∙◌, length, ap, subst, arith, append_assoc}
use Rattle.http_exchange.specs.Checked.{HasChecked}
use Rattle.http_exchange.proofs.Blocks.{left_behind, taken_more}
use Rattle.http_exchange.proofs.text_check.TextCheck.add_blocks.Goals as goal

pub loop-block-preserved : goal.loop-block-preserved
loop-block-preserved c =
    let cut = c.in-Some.ensures.cases in
    let was = c.loop-block.invariant in
    let len : length c.in-Some.more.now + 64 ≡ length c.loop-block.rest.now = cut.2 in
    let more = left_behind c.args.bytes.now c.loop-block.rest.now c.in-Some.more.now was.1 was.2 cut.1 len in
    let taken = taken_more c.args.bytes.now c.loop-block.rest.now c.in-Some.block.now c.in-Some.more.now was.1 was.2
    cut.0 len in (
      c.add_block.ensures.filled,
      omega (arith, was.1, len),
      more,
      λ came h. subst (HasChecked c.add_block.new.self)
          (append_assoc came _ c.in-Some.block.now ∙ ap (λ t. came ++ t) taken)
          (c.add_block.ensures.all _ (was.3 came h)),
    )
