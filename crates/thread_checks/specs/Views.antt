-- What of a script is looked at apart. Each view has as many lines as the script.
use Rattle.std.specs.Prelude.{ℕ, ◌-◌, Bool, false, ◌||◌, List, [], ◌∷◌, ◌++◌, drop, take, length, is_some, if◌then◌else◌, Option, Some, None, codes}
use Rattle.scripts.specs.Checks.{begins}
use Rattle.streams.specs.Fields.{lines_of, output_line}
use Rattle.thread_checks.specs.declared.views.View.{View}
use Rattle.thread_checks.specs.declared.views.View.TheVariants as views
use Rattle.thread_checks.specs.Lines.{is_expect, is_own, is_start_call, is_worker, rounds_in, share_in}

-- of lines, in their order, by a state that goes from line to line
abbrev pub by_lines : {S A : Type 0} → (S → List ℕ → List A) → (S → List ℕ → S) → S → List (List ℕ) → List A
by_lines shown next s [] = []
by_lines shown next s (line ∷ lines) = shown s line ++ by_lines shown next (next s line) lines

-- as a line of a script of calls: one before the workers asks what it asks behind `start`, or expects an answer
abbrev pub start_line : List ℕ → List ℕ
start_line line =
    if begins (codes "nodes ") line || is_expect line then line else
    (if is_start_call line then drop 6 line else [])

-- `gossip <rounds> share` without its last word
abbrev pub unshared : List ℕ → List ℕ
unshared line = if is_some (share_in line) then take (length line - 6) line else line

-- the plan's own lines; the script of calls before the workers; or all but what is done before these
abbrev pub view_line : View → Bool → List ℕ → List ℕ
view_line views.Plan worked line = if is_own line then [] else unshared line
view_line views.Starts worked line = if worked then [] else start_line line
view_line views.Workers worked line = if begins (codes "start ") line then [] else line

abbrev pub shown_line : View → Bool → List ℕ → List ℕ
shown_line view worked line = output_line (view_line view worked line)

-- a worker was met
abbrev pub worked_after : Bool → List ℕ → Bool
worked_after worked line = worked || is_worker line

-- without the last byte
abbrev pub but_last : List ℕ → List ℕ
but_last text = take (length text - 1) text

unfoldable pub view_of : View → List ℕ → List ℕ
view_of view script = but_last (by_lines (shown_line view) worked_after false (lines_of script))

-- the rounds of lines with such a last word
abbrev pub rounds_of : Option ℕ → List ℕ
rounds_of None = []
rounds_of (Some rounds) = rounds ∷ []

abbrev pub shown_rounds : List ℕ → Bool → List ℕ → List ℕ
shown_rounds meant same line = rounds_of (rounds_in meant line)

abbrev pub same_after : Bool → List ℕ → Bool
same_after same line = same

unfoldable pub all_rounds : List ℕ → List ℕ → List ℕ
all_rounds meant script = by_lines (shown_rounds meant) same_after false (lines_of script)
