use Rattle.std.proofs.Common.{◌≡◌}
use Rattle.std.specs.List.{flat_map}
use Rattle.std.specs.String.{string_bytes}
use Rattle.refusal_texts.specs.Explanations.{word_explained}
use Rattle.refusal_texts.specs.declared.table.TheConstants.{TABLE}
use Rattle.refusal_texts.proofs.explaining.explain.Given as goal

abbrev pub invariant-loop-word : goal.invariant-loop-word
invariant-loop-word l = string_bytes l.shown ≡ flat_map (λ x. word_explained TABLE.now x.now) l.yielded
