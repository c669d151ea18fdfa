-- The lines that only a script of threads that is checked has.
use Rattle.std.specs.Prelude.{ℕ, ◌==◌, Bool, not, ◌&&◌, ◌||◌, List, is_some, length, nat_lt, if◌then◌else◌, Option, Some, None, codes}
use Rattle.std.specs.List.{position_or_len, before_first, after_first}
use Rattle.std.specs.Str.{bytes_eq}
use Rattle.decimals.specs.Decimals.{amount_of, byte_of, word_of}
use Rattle.scripts.specs.Checks.{begins}
use Rattle.stamp_register.specs.declared.key.Stamp.{Stamp}
use Rattle.streams.specs.Fields.{cut_of, field_of, field_cut_of}
use Rattle.streams.specs.Lines.{◌>>=◌, text_in}

-- `expect <text>`; `expect` alone expects nothing
abbrev pub is_expect : List ℕ → Bool
is_expect line = bytes_eq line (codes "expect") || begins (codes "expect ") line

abbrev pub is_await : List ℕ → Bool
is_await line = bytes_eq line (codes "await") || begins (codes "await ") line

abbrev pub is_dot : ℕ → Bool
is_dot byte = byte == 46

-- what stands before the first dot, and what after it
abbrev pub dot_cut_of : List ℕ → Option (List ℕ × List ℕ)
dot_cut_of text =
    if nat_lt (position_or_len is_dot text) (length text)
    then Some (before_first is_dot text, after_first is_dot text) else None

-- `<clock>.<node>`
abbrev pub stamp_in : List ℕ → Option Stamp
stamp_in text = do
  parts ← dot_cut_of text
  clock ← amount_of (parts.0)
  node ← byte_of (parts.1)
  Some (record { clock = clock; node = node })

abbrev pub named_in : List ℕ → Option (List ℕ × Option Stamp)
named_in rest = do
  name ← field_of rest
  Some (name, None)

abbrev pub stamped_in : List ℕ → Option (List ℕ × Option Stamp)
stamped_in rest = do
  parts ← field_cut_of rest
  stamp ← stamp_in (parts.1)
  Some (parts.0, Some stamp)

-- `<name>`, or `<name> <stamp>`
abbrev pub awaited_in : List ℕ → Option (List ℕ × Option Stamp)
awaited_in rest = if is_some (cut_of rest) then stamped_in rest else named_in rest

-- what an `await` line waits for
abbrev pub await_in : List ℕ → Option (List ℕ × Option Stamp)
await_in line = do
  text ← text_in line
  parts ← cut_of text
  awaited_in (parts.1)

-- the rounds, where the first word and the last are those that are meant
abbrev pub rounds_if : List ℕ → List ℕ → List ℕ → List ℕ → Option ℕ
rounds_if meant word rounds last =
    if bytes_eq word (codes "gossip") && bytes_eq last meant then word_of rounds else None

-- `gossip <rounds> <meant>`
abbrev pub rounds_in : List ℕ → List ℕ → Option ℕ
rounds_in meant line = do
  text ← text_in line
  parts ← cut_of text
  more ← cut_of (parts.1)
  rounds_if meant (parts.0) (more.0) (more.1)

-- `gossip <rounds> first`, and `gossip <rounds> share`
abbrev pub first_in : List ℕ → Option ℕ
first_in line = rounds_in (codes "first") line

abbrev pub share_in : List ℕ → Option ℕ
share_in line = rounds_in (codes "share") line

abbrev pub is_own : List ℕ → Bool
is_own line = is_expect line || (is_await line || is_some (first_in line))

abbrev pub is_worker : List ℕ → Bool
is_worker line = begins (codes "worker ") line

abbrev pub is_spread : List ℕ → Bool
is_spread line = begins (codes "start spread ") line

-- a `start` line that spreads nothing
abbrev pub is_start_call : List ℕ → Bool
is_start_call line = begins (codes "start ") line && not (is_spread line)
