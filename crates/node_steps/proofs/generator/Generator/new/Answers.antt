use Rattle.std.proofs.Common.{◌∙◌}
use Rattle.node_steps.proofs.generator.Generator.new.Goals as goal

pub returns : goal.returns
returns c = c.set_stream.ensures ∙ (λ i. record {
  key = (c.from_seed-words.ensures i).key;
  stream = c.args.stream;
  word_pos = (c.from_seed-words.ensures i).word_pos;
})
