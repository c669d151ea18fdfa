-- The calls that lines of scripts ask for: those that take no random draws, and neither make nor bring a message.
use Rattle.std.specs.Prelude.{ℕ, List, Option, Some, None, if◌then◌else◌, codes}
use Rattle.std.specs.Str.{bytes_eq}
use Rattle.node_calls.specs.Told.{AskTold}
use Rattle.node_calls.specs.Told as asks
use Rattle.decimals.specs.Decimals.{amount_of}
use Rattle.streams.specs.Lines.{◌>>=◌}
use Rattle.streams.specs.Fields.{field_of, field_cut_of, byte_cut_of}

-- `<name> <rest>`, whose rest may be empty and have spaces
abbrev pub set_in : List ℕ → Option AskTold
set_in rest = do
  name ← field_cut_of rest
  Some (asks.sets (name.0) (name.1))

-- `<name>`
abbrev pub remove_in : List ℕ → Option AskTold
remove_in rest = do
  name ← field_of rest
  Some (asks.removes name)

-- `<rest>`, which may be empty and have spaces
abbrev pub load_in : List ℕ → AskTold
load_in rest = asks.loads rest

-- `<name> <term> <to> <amount>`
abbrev pub shift_in : List ℕ → Option AskTold
shift_in rest = do
  name ← field_cut_of rest
  term ← byte_cut_of (name.1)
  to ← byte_cut_of (term.1)
  amount ← amount_of (to.1)
  Some (asks.shifts (name.0) (term.0) (to.0) amount)

-- `<name> <term> <amount>`
abbrev pub grant_in : List ℕ → Option AskTold
grant_in rest = do
  name ← field_cut_of rest
  term ← byte_cut_of (name.1)
  amount ← amount_of (term.1)
  Some (asks.grants (name.0) (term.0) amount)

-- by its first word, what follows it
abbrev pub call_after : List ℕ → List ℕ → Option AskTold
call_after word rest =
    if bytes_eq word (codes "set") then set_in rest else
    (if bytes_eq word (codes "remove") then remove_in rest else
    (if bytes_eq word (codes "load") then Some (load_in rest) else
    (if bytes_eq word (codes "shift") then shift_in rest else
    (if bytes_eq word (codes "grant") then grant_in rest else None))))
