use Rattle.std.proofs.Common.{◌∙◌, ap}
use Rattle.rand_chacha.specs.ChaCha.{ChaCha}
use Rattle.node_steps.proofs.generator.Generator.place.Goals as goal

pub returns-clause-place : goal.returns-clause-place
returns-clause-place c = c.get_word_pos.ensures.value ∙ ap (λ (g : ChaCha). g.word_pos) c.self.view_is
