-- In which lines of a script of threads nodes start something, and workers begin.
use Rattle.std.specs.Prelude.{ℕ, ◌+◌, Bool, true, false, List, [], ◌∷◌, ◌++◌, if◌then◌else◌, Option, Some}
use Rattle.streams.specs.Fields.{lines_of}
use Rattle.thread_plans.specs.declared.line_numbers.Kind.{Kind}
use Rattle.thread_plans.specs.declared.line_numbers.Kind.TheVariants as kinds
use Rattle.thread_plans.specs.Lines.{LineValue, start_line, worker_line, line_in}

abbrev pub is_start : Option LineValue → Bool
is_start (Some (start_line node start)) = true
is_start _ = false

abbrev pub is_worker : Option LineValue → Bool
is_worker (Some (worker_line node)) = true
is_worker _ = false

abbrev pub is_kind : Kind → Option LineValue → Bool
is_kind kinds.Start line = is_start line
is_kind kinds.Worker line = is_worker line

-- whether a line is one of these; one that is skipped has none of the forms
abbrev pub has_kind : Kind → List ℕ → Bool
has_kind kind line = is_kind kind (line_in line)

abbrev pub number_if : Bool → ℕ → List ℕ
number_if is_one number = if is_one then number ∷ [] else []

-- the numbers of the lines that are, the first of which has this number
abbrev pub numbers_from : Kind → ℕ → List (List ℕ) → List ℕ
numbers_from kind number [] = []
numbers_from kind number (line ∷ lines) = number_if (has_kind kind line) number ++ numbers_from kind (number + 1) lines

-- those of the `start` lines of a script, and of the lines with which its workers begin
unfoldable pub start_lines : List ℕ → List ℕ
start_lines script = numbers_from kinds.Start 1 (lines_of script)

unfoldable pub worker_lines : List ℕ → List ℕ
worker_lines script = numbers_from kinds.Worker 1 (lines_of script)
