-- What is written of a part before anybody is told.
use Rattle.std.specs.Prelude.{◌≡◌, ◌++◌, ℕ, List, map, flat_map, slice_get, All, Option, Some}
use Rattle.std.specs.Io.KnownBytes.{Appends}
use Rattle.node_calls.specs.declared.ask.Ask.{Ask}
use Rattle.node_calls.specs.declared.reply.Reply.{Reply}
use Rattle.node_calls.specs.declared.trace.Entry.{Entry}
use Rattle.node_calls.specs.Asks.{ask_value_first}
use Rattle.node_calls.specs.Told.{Told, told}
use Rattle.node_steps.specs.declared.config.Config.{Config}
use Rattle.node_registry.specs.Receipts.{IsRefused}
use Rattle.drills.specs.Drills.{ended}
use Rattle.drills.specs.Lines.{LineTold, entry}
use Rattle.drills.specs.Written.{ReadsBack}
use Rattle.part_keeper.specs.declared.fault.CallFault.{CallFault}
use Rattle.part_keeper.specs.declared.fault.CallFault.TheVariants as faults

-- a line was written after those that waited, or waits with them; it reads back
pub record PutsLine {W : Type 0} (contents : W → Option (List ℕ)) (old new : W) (waited waits : List ℕ) (line : LineTold) :
    Type 0 where
  pub sent : List ℕ
  pub written : Appends (contents old) (contents new) sent
  pub all : sent ++ waits ≡ waited ++ ended line
  pub reads : ReadsBack line

-- a writer has the lines of these calls behind what it had, and nothing else
abbrev pub Records : {W : Type 0} → (W → Option (List ℕ)) → W → W → List Told → Type 0
Records contents old new calls =
    Appends (contents old) (contents new) (flat_map ended (map entry calls)) × All ReadsBack (map entry calls)

-- a call with this ask and this reply is among those whose lines were written
pub record IsRecorded {W : Type 0} (contents : W → Option (List ℕ)) (old new : W) (ask : Ask) (reply : Reply) :
    Type 0 where
  pub entry : Entry
  pub calls : List Told
  pub place : ℕ
  pub asked : entry.ask ≡ ask
  pub answered : entry.reply ≡ reply
  pub among : slice_get calls place ≡ Some (told entry)
  pub written : Records contents old new calls

-- why a call wasn't answered: where the node refused it, some lawful node of the configuration does
abbrev pub IsUnanswered : Config → List ℕ → Ask → CallFault → Type 0
IsUnanswered config seed ask (faults.Refused fault) = IsRefused config seed (ask_value_first config.nodes ask) fault
IsUnanswered config seed ask faults.NotRecorded = Unit {0}
IsUnanswered config seed ask faults.RecordingFailed = Unit {0}
