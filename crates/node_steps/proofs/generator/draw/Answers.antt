use Rattle.std.proofs.Common.{◌+◌, ◌<◌, ◌^◌, ◌∙◌, arith}
use Rattle.node_steps.proofs.StreamWords.{drawn_one, words_next-push}
use Rattle.node_steps.proofs.generator.draw.Goals as goal

pub loop-preserved : goal.loop-preserved
loop-preserved c =
    let inv = c.loop.invariant in
    let pushed = c.push_reserved.ensures in
    let generator = c.args.generator.now in
    let small : generator.word_pos + c.loop.counter + 1 < 2 ^ 68 = omega arith in
    let one = drawn_one generator c.loop.generator c.next_word.new.self c.loop.counter c.next_word.result inv.place
    c.next_word.ensures small in record {
      room = omega (arith, pushed.capacity);
      len = omega (arith, pushed.len);
      drawn = pushed.items ∙ words_next-push generator c.loop.counter c.next_word.result c.loop.words.items inv.drawn
          one.0;
      place = one.1;
    }
