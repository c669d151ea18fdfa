-- The waits of a script that is checked.
use Rattle.std.specs.Prelude.{ℕ, ◌+◌, List, [], ◌∷◌, if◌then◌else◌, Option, Some, None}
use Rattle.std.specs.Option.{option_map_or}
use Rattle.actions.specs.Names.{is_name}
use Rattle.decimals.specs.Decimals.{byte_of}
use Rattle.stamp_register.specs.declared.key.Stamp.{Stamp}
use Rattle.streams.specs.Fields.{cut_of, lines_of}
use Rattle.streams.specs.Lines.{◌>>=◌, text_in}
use Rattle.thread_checks.specs.Lines.{await_in, is_await, is_worker}
use Rattle.thread_checks.specs.Views.{by_lines}

-- a line that waits: its number, the node of its worker, the point, if the text is a name, and the stamp, if one is given
pub record WaitLine : Type 0 where
  pub line : ℕ
  pub node : ℕ
  pub name : Option (List ℕ)
  pub stamp : Option Stamp

-- between two lines: the number of the next one, and the node of the worker that it belongs to
pub record WaitPlace : Type 0 where
  pub line : ℕ
  pub node : ℕ

abbrev pub first_place : WaitPlace
first_place = record { line = 1; node = 0 }

-- the node in a line `worker <node>`
abbrev pub worker_in : List ℕ → Option ℕ
worker_in line = do
  text ← text_in line
  parts ← cut_of text
  byte_of (parts.1)

-- the node of the worker that a line belongs to, by the one before it
abbrev pub node_after : ℕ → List ℕ → ℕ
node_after node line = if is_worker line then option_map_or (λ n. n) (worker_in line) node else node

abbrev pub after_place : WaitPlace → List ℕ → WaitPlace
after_place place line = record { line = place.line + 1; node = node_after place.node line }

abbrev pub name_of : List ℕ → Option (List ℕ)
name_of text = if is_name text then Some text else None

-- the line that waits for this, if for anything
abbrev pub wait_for : WaitPlace → Option (List ℕ × Option Stamp) → List WaitLine
wait_for place None = []
wait_for place (Some awaited) =
    record { line = place.line; node = place.node; name = name_of (awaited.0); stamp = awaited.1 } ∷ []

abbrev pub wait_at : WaitPlace → List ℕ → List WaitLine
wait_at place line = if is_await line then wait_for place (await_in line) else []

-- the lines of a script that wait, in their order
unfoldable pub waits_in : List ℕ → List WaitLine
waits_in script = by_lines wait_at after_place first_place (lines_of script)
