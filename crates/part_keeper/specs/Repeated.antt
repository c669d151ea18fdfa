-- Calls of a part that are made again.
use Rattle.std.specs.Prelude.{◌≡◌, ◌≢◌, ◌⊎◌, ℕ, ◌+◌, ◌-◌, ◌^◌, min, nat_le, if◌then◌else◌, List, length, Some}
use Rattle.std.specs.Io.BufRead.{ends_with_byte}
use Rattle.node_calls.specs.declared.ask.Ask.{Ask}
use Rattle.node_calls.specs.declared.fault.NodeFault.{NodeFault}
use Rattle.node_calls.specs.declared.fault.NodeFault.TheVariants.{OutOfMemory}
use Rattle.node_calls.specs.declared.receipt.Receipt.{Receipt}
use Rattle.node_calls.specs.Asks.{ask_value_first}
use Rattle.node_calls.specs.Told.{Told, ask_told, told}
use Rattle.node_steps.specs.declared.config.Config.{Config}
use Rattle.drills.specs.Reading.{entry_in}
use Rattle.node_registry.specs.Receipts.{IsGiven, IsRefused}
use Rattle.part_keeper.specs.declared.fault.LineFault.{LineFault}
use Rattle.part_keeper.specs.declared.fault.LineFault.TheVariants as lines
use Rattle.part_keeper.specs.declared.fault.PartFault.{PartFault}
use Rattle.part_keeper.specs.declared.fault.PartFault.TheVariants as parts
use Rattle.part_keeper.specs.declared.repeating.Next.{Next}
use Rattle.part_keeper.specs.declared.repeating.Next.TheVariants.{Line, End, TooLong}
use Rattle.part_keeper.specs.declared.repeating.Repeated.{Repeated}
use Rattle.part_keeper.specs.declared.repeating.TheConstants.{MOST_OF_LINE}

-- the call that a line says was made from a seat, which had made so many and has made so many then, and was answered
-- as the line says, with its random draws
pub record IsRepeated (config : Config) (seed : List ℕ) (had has : ℕ) (line : List ℕ) : Type 0 where
  pub receipt : Receipt
  pub said : entry_in line ≡ Some (told receipt.entry)
  pub given : IsGiven config seed receipt
  pub counted : has ≡ had + 1

-- the node refuses a call with this ask, otherwise than as out of memory
abbrev pub IsRefusedAgain : Config → List ℕ → Told → Type 0
IsRefusedAgain config seed said =
    (ask : Ask) × (fault : NodeFault) × (ask_told ask ≡ said.ask)
    × IsRefused config seed (ask_value_first config.nodes ask) fault × (fault ≢ OutOfMemory)

-- it answers it otherwise
abbrev pub IsAnsweredOtherwise : Config → List ℕ → Told → Type 0
IsAnsweredOtherwise config seed said =
    (r : Receipt) × IsGiven config seed r × (ask_told r.entry.ask ≡ said.ask) × (told r.entry ≢ said)

-- a line is that of a call that the node refuses so, or answers otherwise
pub record IsOtherwise (config : Config) (seed line : List ℕ) : Type 0 where
  pub said : Told
  pub read : entry_in line ≡ Some said
  pub other : IsRefusedAgain config seed said ⊎ IsAnsweredOtherwise config seed said

-- what is told of the line of this number
abbrev pub in_line : LineFault → ℕ → PartFault
in_line lines.NoCall line = parts.NoCall line
in_line lines.Differs line = parts.Differs line
in_line lines.OutOfMemory line = parts.OutOfMemory

-- what bytes are that were taken up to a newline, to the end, or to the most bytes of a line
abbrev pub next_in : List ℕ → Next
next_in taken =
    if ends_with_byte 10 taken then Line else (if nat_le MOST_OF_LINE (length taken) then TooLong else End)

-- as many as 64 bits hold
abbrev pub at_most : ℕ → ℕ
at_most n = min n (2 ^ 64 - 1)

-- with the call of a line more, and with the bytes of that and of the newline that ends it
abbrev pub with_line : List ℕ → Repeated → Repeated
with_line line r = record { calls = r.calls + 1; bytes = at_most (at_most (r.bytes + length line) + 1) }
