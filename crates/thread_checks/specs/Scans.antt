-- What is said of the lines that only a script that is checked has, and of their places.
use Rattle.std.specs.Prelude.{ℕ, ◌+◌, ◌==◌, Bool, false, ◌&&◌, ◌||◌, List, [], ◌∷◌, ◌++◌, drop, is_some, length, nat_lt, if◌then◌else◌, Option, Some, None, codes}
use Rattle.std.specs.List.{list_any}
use Rattle.std.specs.Str.{bytes_eq}
use Rattle.scripts.specs.Checks.{shown}
use Rattle.scripts.specs.Faults.{missing_said, said_of}
use Rattle.streams.specs.Fields.{lines_of}
use Rattle.thread_checks.specs.Lines.{await_in, first_in, is_await, is_expect, is_spread, is_start_call}
use Rattle.thread_checks.specs.Views.{by_lines, worked_after}

-- between two lines: the number of the next one, and whether a worker was met, rights were spread, and rounds before the
-- workers were asked for
pub record Scan : Type 0 where
  pub number : ℕ
  pub worked : Bool
  pub spread : Bool
  pub rounds : Bool

abbrev pub unscanned : Scan
unscanned = record { number = 1; worked = false; spread = false; rounds = false }

abbrev pub after_scanned : Scan → List ℕ → Scan
after_scanned s line = record {
  number = s.number + 1;
  worked = worked_after s.worked line;
  spread = s.spread || is_spread line;
  rounds = s.rounds || is_some (first_in line);
}

-- ---- a wait, by the numbers of those that were in vain

abbrev pub why_await : List ℕ → Scan → List ℕ → Option (List ℕ)
why_await vain s line =
    if s.worked then
    (if is_some (await_in line)
    then (if list_any (λ n. n == s.number) vain
    then Some (codes "gossip ended before the node received the configuration") else None)
    else Some (codes "bad line: await <name>[ <stamp>]"))
    else Some (codes "await is only allowed in a worker")

-- ---- rounds before the workers, and starts behind a spread

abbrev pub why_late : Scan → List ℕ → Option (List ℕ)
why_late s line =
    if (s.worked || s.rounds) && is_some (first_in line)
    then Some (codes "gossip <rounds> first is allowed once, before the workers")
    else (if s.spread && is_start_call line then Some (codes "no other start line may follow start spread") else None)

abbrev pub why_wrong : List ℕ → Scan → List ℕ → Option (List ℕ)
why_wrong vain s line = if is_await line then why_await vain s line else why_late s line

-- ---- what is printed

-- some line is just this
abbrev pub has_line : List ℕ → List (List ℕ) → Bool
has_line text [] = false
has_line text (line ∷ lines) = bytes_eq line text || has_line text lines

-- some line of it is just this, which is not empty
abbrev pub is_printed : List ℕ → List ℕ → Bool
is_printed printed text = nat_lt 0 (length text) && has_line text (lines_of printed)

abbrev pub unprinted : ℕ → List ℕ → List ℕ → List (List ℕ)
unprinted number printed text =
    if is_printed printed text then []
    else said_of number (codes "expected " ++ shown text ++ codes ", which isn't printed")

-- behind the first worker a line expects what is printed; before it, the answer of a start line
abbrev pub expect_said : List ℕ → Scan → List ℕ → List (List ℕ)
expect_said printed s line = if s.worked && is_expect line then unprinted s.number printed (drop 7 line) else []

abbrev pub scan_said : List ℕ → List ℕ → Scan → List ℕ → List (List ℕ)
scan_said vain printed s line = missing_said s.number (why_wrong vain s line) ++ expect_said printed s line

-- of a script, a line each
unfoldable pub scan_lines : List ℕ → List ℕ → List ℕ → List (List ℕ)
scan_lines script vain printed = by_lines (scan_said vain printed) after_scanned unscanned (lines_of script)
