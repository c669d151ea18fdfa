-- What is printed and said of a run, and its exit status.
use Rattle.std.specs.Prelude.{◌≡◌, ◌⊎◌, ℕ, ◌==◌, Bool, false, ◌&&◌, not, List, [], ◌++◌, is_ok, length, if◌then◌else◌, Option, Result, Ok, Err, Vec}
use Rattle.std.specs.declared.alloc.Global.{Global}
use Rattle.answers.specs.Warned.{warning_objects}
use Rattle.answers.specs.declared.printed.Format.{Format}
use Rattle.answers.specs.declared.printed.Format.TheVariants as formats
use Rattle.streams.specs.Streams.{Writes}
use Rattle.streams.specs.Watched.{has_failed}
use Rattle.streams.specs.declared.fault.ScriptFault.{ScriptFault}
use Rattle.streams.specs.declared.watched.Watched.{Watched}
use Rattle.warnings.specs.Lines.{text_of_lines}

-- what a run prints in a format, or why it was refused
abbrev pub Run : Type 0
Run = Result (Vec ℕ Global) ScriptFault

-- where answers are JSON objects, an object of each line that is said stands behind them
abbrev pub printed_with : Format → List ℕ → List (List ℕ) → List ℕ
printed_with formats.Lines answers said = answers
printed_with formats.Objects answers said = answers ++ warning_objects said

-- what a run prints; where it is refused it answers nothing
abbrev pub answers_in : Run → List ℕ
answers_in (Ok answers) = answers.items
answers_in (Err fault) = []

-- whether a run fails: it is checked, and something is said of it
abbrev pub is_wrong : Bool → List (List ℕ) → Bool
is_wrong check said = check && not (length said == 0)

abbrev pub status_of : (wrong done : Bool) → ℕ
status_of wrong done = if wrong then 3 else (if done then 0 else 1)

-- answers were written with what is said of them, and this was said, where it could be
abbrev pub TellsWith : {O E : Type 0} → Format → (O → Option (List ℕ)) → Watched O → Watched O → (E → Option (List ℕ)) →
    Watched E → Watched E → List ℕ → List (List ℕ) → Type 0
TellsWith format contents old new heard was now answers said =
    Writes contents old new (printed_with format answers said)
    × (has_failed now ≡ false → Writes heard was now (text_of_lines said))

-- a run ends with its status, and this is so of its answers and of what is said; or with 1, since memory was refused,
-- and it is so of nothing
abbrev pub Ends : Bool → Run → List (List ℕ) → ℕ → (List ℕ → List (List ℕ) → Type 0) → Type 0
Ends wrong run said status fact =
    ((status ≡ status_of wrong (is_ok run)) × fact (answers_in run) said) ⊎ ((status ≡ 1) × fact [] [])

-- unless nothing is to be said
abbrev pub heard : Bool → List (List ℕ) → List (List ℕ)
heard quiet said = if quiet then [] else said

-- of a script that is refused these lines are said, or nothing
abbrev pub SaysOrNothing : (List (List ℕ) → Type 0) → List (List ℕ) → Type 0
SaysOrNothing told said = told said ⊎ told []
