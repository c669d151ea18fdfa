use Rattle.std.proofs.Common.{◌≡◌, ◌++◌, length, drop}
use Rattle.std.specs.Option.{option_map}
use Rattle.streams.specs.Fields.{fields_of}
use Rattle.scripts.specs.Commands.{words_of}
use Rattle.scripts.proofs.command.words_in.Given as goal

-- the words so far, and those of the fields that are left, are those of all
abbrev pub invariant-loop-field : goal.invariant-loop-field
invariant-loop-field l =
    option_map (λ more. l.words.items ++ more) (words_of (drop (length l.yielded) (fields_of l.text))) ≡
    words_of (fields_of l.text)
