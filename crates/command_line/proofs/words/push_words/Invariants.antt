use Rattle.std.proofs.Common.{◌≡◌, ◌++◌, ◌∷◌, drop}
use Rattle.std.specs.List.{flat_map}
use Rattle.std.specs.String.{string_bytes}
use Rattle.command_line.proofs.words.push_words.Given as goal

abbrev pub invariant-loop-word : goal.invariant-loop-word
invariant-loop-word l = string_bytes l.text ++ flat_map (λ word. 32 ∷ word.now) (drop l.word-index l.words)
    ≡ string_bytes l.initial.text ++ flat_map (λ word. 32 ∷ word.now) l.words
