-- Which setting of a point a node has, by its calls alone.
use Rattle.std.specs.Prelude.{ℕ, ◌+◌, ◌==◌, ◌&&◌, ◌||◌, Bool, false, List, [], ◌∷◌, max, min, nat_le, nat_lt, fold, if◌then◌else◌, Option, Some, None, Result, Ok, Err}
use Rattle.std.specs.Str.{bytes_eq}
use Rattle.actions.specs.Value.{TermValue}
use Rattle.actions.specs.SettingReading.{setting_reading}
use Rattle.actions.specs.declared.fault.SettingFault.{SettingFault}
use Rattle.stamp_register.specs.declared.key.Stamp.{Stamp}
use Rattle.stamp_register.specs.Keys.{stamp_of}
use Rattle.message_format.specs.declared.fault.WireFault.{WireFault}
use Rattle.message_format.specs.Messages.{EntryValue, MessageValue}
use Rattle.message_format.specs.Reading.{message_at}
use Rattle.node_calls.specs.Told.{AskTold, ReplyTold, sets, removes, loads, delivers, was_set, was_removed}
use Rattle.drill_picture.specs.declared.known.Known.{Known}
use Rattle.drill_picture.specs.Budgets.{BudgetTold, same_stamp}

-- before its first call
abbrev pub knows_nothing : Known
knows_nothing = record { clock = 0; stamp = None }

-- the node makes a setting of some point
abbrev pub made : List ℕ → List ℕ → Stamp → Known → Known
made name other stamp known = record {
  clock = stamp.clock;
  stamp = if bytes_eq other name then Some stamp else known.stamp;
}

-- the stamp that it gives next
abbrev pub next_stamp : ℕ → Known → Stamp
next_stamp node known = record { clock = min (known.clock + 1) 18446744073709551615; node = node }

-- and those of a load, one after the other
abbrev pub loaded : List ℕ → ℕ → List (List ℕ × List TermValue) → Known → Known
loaded name node [] known = known
loaded name node (point ∷ points) known =
    loaded name node points (made name point.0 (next_stamp node known) known)

-- of two settings of a point the one with the greater stamp holds
abbrev pub is_above : Stamp → Stamp → Bool
is_above a b = nat_lt b.clock a.clock || ((a.clock == b.clock) && nat_lt b.node a.node)

abbrev pub later : Stamp → Option Stamp → Option Stamp
later stamp None = Some stamp
later stamp (Some held) = if is_above stamp held then Some stamp else Some held

-- the node hears of a setting of some point
unfoldable pub heard : List ℕ → Known → EntryValue → Known
heard name known entry = record {
  clock = max known.clock entry.key.clock;
  stamp = if bytes_eq entry.name name then later (stamp_of entry.key) known.stamp else known.stamp;
}

-- what a message tells of names; bytes that are no message tell nothing
abbrev pub told_by : Result MessageValue WireFault → List EntryValue
told_by (Ok message) = message.entries
told_by (Err fault) = []

unfoldable pub entries_in : ℕ → List ℕ → List EntryValue
entries_in nodes bytes = told_by (message_at nodes bytes)

abbrev pub points_of : Result (List (List ℕ × List TermValue)) SettingFault → List (List ℕ × List TermValue)
points_of (Ok points) = points
points_of (Err fault) = []

unfoldable pub points_loaded : List ℕ → List (List ℕ × List TermValue)
points_loaded text = points_of (setting_reading text)

abbrev pub made_by : List ℕ → List ℕ → ReplyTold → Known → Known
made_by name other (was_set stamp) known = made name other stamp known
made_by name other (was_removed stamp) known = made name other stamp known
made_by name other _ known = known

-- what a node knows of a name after a call, in a cluster of so many nodes
abbrev pub known_after : ℕ → List ℕ → ℕ → AskTold → ReplyTold → Known → Known
known_after nodes name node (sets other text) reply known = made_by name other reply known
known_after nodes name node (removes other) reply known = made_by name other reply known
known_after nodes name node (loads text) reply known = loaded name node (points_loaded text) known
known_after nodes name node (delivers bytes) reply known = fold (heard name) known (entries_in nodes bytes)
known_after nodes name node _ reply known = known

abbrev pub is_stamp : Stamp → Option Stamp → Bool
is_stamp stamp None = false
is_stamp stamp (Some other) = same_stamp other stamp

-- the node has the setting whose rights are counted
abbrev pub is_under : BudgetTold → Known → Bool
is_under b known = is_stamp b.stamp known.stamp

-- the node made that setting between these
abbrev pub has_made_it : BudgetTold → ℕ → Known → Known → Bool
has_made_it b node before known =
    (node == b.stamp.node) && (nat_lt before.clock b.stamp.clock && nat_le b.stamp.clock known.clock)
