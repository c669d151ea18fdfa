-- A list that only grows, of which the code keeps the end.
use Rattle.std.specs.Prelude.{ℕ, nat_lt, cond, List, [], ◌∷◌, ◌++◌, length, slice_get, Option, None}
use Rattle.node_calls.specs.Told.{Told}
use Rattle.packed_trace.specs.Packed.{Packed}

-- the calls of a whole life, the first one first, and how many of the first ones are no longer kept
pub record Calls : Type 0 where
  pub all : List Told
  pub from : ℕ

-- no call yet
abbrev pub no_calls : Calls
no_calls = record { all = []; from = 0 }

-- one more call, which is kept
abbrev pub grown : Calls → Told → Calls
grown calls call = record { all = calls.all ++ call ∷ []; from = calls.from }

-- all that were kept are no longer
abbrev pub given : Calls → Calls
given calls = record { all = calls.all; from = length calls.all }

-- a call that is kept, by its number in the whole life
abbrev pub kept_at : Calls → ℕ → Option Told
kept_at calls index = cond (nat_lt index calls.from) None (slice_get calls.all index)

-- the calls, and what is kept of them as it lies there
pub record HistoryValue : Type 0 where
  pub calls : Calls
  pub kept : Packed

-- what parts of a trace tell, the first one first
unfoldable pub told_in : List Packed → List Told
told_in [] = []
told_in (part ∷ parts) = part.calls ++ told_in parts
