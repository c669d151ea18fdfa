-- What the program does for what a command line asks for.
use Rattle.std.specs.Prelude.{◌≡◌, ◌⊎◌, ⊤, ℕ, true, false, List, Option, IsOk, option_map, string_bytes}
use Rattle.actions.specs.Reading.{reading}
use Rattle.command_line.specs.declared.reading.Invocation.{Invocation}
use Rattle.command_line.specs.declared.reading.Invocation.TheVariants as asked
use Rattle.commands.specs.Audited.{SaysOfAFile}
use Rattle.commands.specs.Drawn.{DrawsSome}
use Rattle.commands.specs.Explaining.{asked_text}
use Rattle.commands.specs.Formats.{answer_format}
use Rattle.refusal_texts.specs.declared.table.TheConstants.{TABLE}
use Rattle.streams.specs.Streams.{Writes}
use Rattle.streams.specs.Watched.{has_unflushed}
use Rattle.streams.specs.declared.watched.Watched.{Watched}

-- it may end with this status
abbrev pub MayEnd : Invocation → ℕ → Type 0
MayEnd (asked.Parse text) status = (status ≡ 0) ⊎ (status ≡ 1)
MayEnd (asked.Sim options) status = (status ≡ 0) ⊎ (status ≡ 1) ⊎ ((status ≡ 3) × (options.check ≡ true))
MayEnd (asked.Threads options) status = (status ≡ 0) ⊎ (status ≡ 1) ⊎ ((status ≡ 3) × (options.check ≡ true))
MayEnd (asked.Audit options) status = (status ≡ 0) ⊎ (status ≡ 1)
MayEnd (asked.Picture options) status = (status ≡ 0) ⊎ (status ≡ 1)
MayEnd (asked.Serve options part) status = (status ≡ 0) ⊎ (status ≡ 1) ⊎ (status ≡ 4)
MayEnd (asked.Explain text) status = (status ≡ 0) ⊎ (status ≡ 1) ⊎ (status ≡ 2)

-- what it has done where it ends with 0: what a script prints, which is a fact of standard input, whose bytes no contract
-- tells, was flushed
abbrev pub IsDone : {O : Type 0} → Invocation → (O → Option (List ℕ)) → Watched O → Watched O → Type 0
IsDone (asked.Parse text) contents old new = IsOk (reading text.now)
IsDone (asked.Audit options) contents old new = SaysOfAFile (answer_format options.json) true contents old new
IsDone (asked.Picture options) contents old new = DrawsSome options.text contents old new
IsDone (asked.Explain text) contents old new =
    Writes contents old new (asked_text TABLE.now (option_map string_bytes text))
IsDone (asked.Sim options) contents old new = has_unflushed new ≡ false
IsDone (asked.Threads options) contents old new = has_unflushed new ≡ false
IsDone (asked.Serve options part) contents old new = ⊤
