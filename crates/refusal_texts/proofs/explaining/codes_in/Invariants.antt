use Rattle.std.proofs.Common.{◌≡◌, ◌∷◌}
use Rattle.std.specs.List.{flat_map}
use Rattle.std.specs.String.{string_bytes}
use Rattle.streams.specs.Fields.{space}
use Rattle.refusal_texts.specs.Explanations.{code_of}
use Rattle.refusal_texts.proofs.explaining.codes_in.Given as goal

abbrev pub invariant-loop-entry : goal.invariant-loop-entry
invariant-loop-entry l = string_bytes l.shown ≡ flat_map (λ x. space ∷ code_of x.now) l.yielded
