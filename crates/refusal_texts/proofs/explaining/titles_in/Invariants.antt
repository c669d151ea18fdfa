use Rattle.std.proofs.Common.{◌≡◌}
use Rattle.std.specs.List.{flat_map}
use Rattle.std.specs.String.{string_bytes}
use Rattle.streams.specs.Fields.{output_line}
use Rattle.refusal_texts.specs.Explanations.{title_of}
use Rattle.refusal_texts.proofs.explaining.titles_in.Given as goal

abbrev pub invariant-loop-entry : goal.invariant-loop-entry
invariant-loop-entry l = string_bytes l.shown ≡ flat_map (λ x. output_line (title_of x.now)) l.yielded
