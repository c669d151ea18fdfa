-- What a node has that resumes from its journal, and what stands in the journal's file then.
use Rattle.std.specs.Prelude.{◌≡◌, ◌⊎◌, ℕ, ◌+◌, ◌<◌, ◌≤◌, ◌^◌, Bool, true, false, List, ◌++◌, length, take, Option, Some, None, IfSome}
use Rattle.drills.specs.Drills.{ended}
use Rattle.drills.specs.Lines.{HeadTold, part_head}
use Rattle.drills.specs.Parts.{ended_in}
use Rattle.drills.specs.Written.{ReadsBack}
use Rattle.node_steps.specs.declared.config.Config.{Config}
use Rattle.part_keeper.specs.declared.fault.PartFault.{PartFault}
use Rattle.part_keeper.specs.declared.fault.PartFault.TheVariants as parts
use Rattle.part_keeper.specs.declared.repeating.Repeated.{Repeated}
use Rattle.part_keeper.specs.Journals.{AreAllRepeated, IsFaultOf, with_newlines}
use Rattle.part_keeper.specs.Repeated.{at_most}
use Rattle.part_files.specs.declared.part_file.OpenFault.{OpenFault}
use Rattle.part_files.specs.declared.part_file.OpenFault.TheVariants as open_faults

-- what the part of a node of a run says first
abbrev pub head_of : Config → List ℕ → HeadTold
head_of config run = record { node = config.node; nodes = config.nodes; cap = config.trace_cap; run = run }

-- a line says it, with the newline that ends it, and reads back
abbrev pub IsFirstLine : HeadTold → List ℕ → Type 0
IsFirstLine head line = (line ≡ ended (part_head head)) × ReadsBack (part_head head)

-- as many calls as the part has; one that is begun has none
abbrev pub calls_of : Option Repeated → ℕ
calls_of None = 0
calls_of (Some had) = had.calls

-- where its last whole line ends, behind this first one
abbrev pub end_of : Repeated → List ℕ → ℕ
end_of had first = at_most (had.bytes + length first)

-- ---- what a journal begins with

-- bytes are the beginning of a first line, and not all of it
abbrev pub IsCutHead : List ℕ → List ℕ → Type 0
IsCutHead first bytes = (more : List ℕ) × (first ≡ bytes ++ more) × (0 < length more)

-- the first line, and what follows it
abbrev pub IsHeaded : List ℕ → List ℕ → List ℕ → Type 0
IsHeaded first bytes rest = bytes ≡ first ++ rest

-- a journal is begun where it has its first line, and what follows that is left to be read; it isn't where it has a
-- beginning of that line alone
abbrev pub BeginsWith : Bool → List ℕ → List ℕ → Option (List ℕ) → Type 0
BeginsWith true first bytes left = (rest : List ℕ) × (left ≡ Some rest) × IsHeaded first bytes rest
BeginsWith false first bytes left = IsCutHead first bytes

-- it has neither
pub record IsForeign (first bytes : List ℕ) : Type 0 where
  pub headed : (rest : List ℕ) → IsHeaded first bytes rest → ⊥
  pub cut : IsCutHead first bytes → ⊥

-- why nothing is said of its beginning
abbrev pub IsOtherHead : List ℕ → List ℕ → OpenFault → Type 0
IsOtherHead first bytes (open_faults.OtherHead told) = IsForeign first bytes
IsOtherHead first bytes (open_faults.Lines fault) = (fault ≡ parts.ReadFailed) ⊎ (fault ≡ parts.OutOfMemory)
IsOtherHead first bytes (open_faults.CantOpen error) = ⊥
IsOtherHead first bytes open_faults.NoFile = ⊥
IsOtherHead first bytes open_faults.InUse = ⊥
IsOtherHead first bytes (open_faults.NotBegun error) = ⊥

-- ---- what the node has of it

-- the calls of all whole lines after the first were repeated, or it isn't begun
abbrev pub HasJournal : Config → List ℕ → ℕ → ℕ → List ℕ → List ℕ → Option Repeated → Type 0
HasJournal config seed had has first bytes None = IsCutHead first bytes × (has ≡ had)
HasJournal config seed had has first bytes (Some r) =
    (rest : List ℕ) × IsHeaded first bytes rest × AreAllRepeated config seed had has rest r

-- why they weren't
abbrev pub IsOpenFault : Config → List ℕ → ℕ → List ℕ → List ℕ → OpenFault → Type 0
IsOpenFault config seed had first bytes (open_faults.OtherHead told) = IsForeign first bytes
IsOpenFault config seed had first bytes (open_faults.Lines fault) =
    ((fault ≡ parts.ReadFailed) ⊎ (fault ≡ parts.OutOfMemory))
    ⊎ ((rest : List ℕ) × IsHeaded first bytes rest × IsFaultOf config seed had rest fault)
IsOpenFault config seed had first bytes (open_faults.CantOpen error) = ⊥
IsOpenFault config seed had first bytes open_faults.NoFile = ⊥
IsOpenFault config seed had first bytes open_faults.InUse = ⊥
IsOpenFault config seed had first bytes (open_faults.NotBegun error) = ⊥

-- ---- its file

-- the first `len` bytes are left of those that there were
abbrev pub Cuts : Option (List ℕ) → Option (List ℕ) → ℕ → Type 0
Cuts old new len = IfSome old (λ bytes. len ≤ length bytes → new ≡ Some (take len bytes))

-- it ends where the last whole line does, or has the first line alone
abbrev pub MakesReady : List ℕ → Option Repeated → Option (List ℕ) → Option (List ℕ) → Type 0
MakesReady first None old new = IfSome old (λ _. new ≡ Some first)
MakesReady first (Some had) old new = Cuts old new (end_of had first) × (end_of had first < 2 ^ 63)

-- the node has the calls of all whole lines, and these stand in the file, and nothing after them
abbrev pub IsResumed : Config → List ℕ → ℕ → ℕ → List ℕ → List ℕ → Option Repeated → Option (List ℕ) → Type 0
IsResumed config seed had has first bytes None new =
    IsCutHead first bytes × (has ≡ had) × (new ≡ Some first)
IsResumed config seed had has first bytes (Some r) new =
    (rest : List ℕ) × IsHeaded first bytes rest × AreAllRepeated config seed had has rest r
    × (new ≡ Some (first ++ with_newlines (ended_in rest)))

-- why it isn't resumed: by its journal, or because the file couldn't be changed
abbrev pub IsResumeFault : Config → List ℕ → ℕ → List ℕ → List ℕ → OpenFault → Type 0
IsResumeFault config seed had first bytes (open_faults.OtherHead told) = IsForeign first bytes
IsResumeFault config seed had first bytes (open_faults.Lines fault) =
    IsOpenFault config seed had first bytes (open_faults.Lines fault)
IsResumeFault config seed had first bytes (open_faults.CantOpen error) = ⊥
IsResumeFault config seed had first bytes open_faults.NoFile = ⊥
IsResumeFault config seed had first bytes open_faults.InUse = ⊥
IsResumeFault config seed had first bytes (open_faults.NotBegun error) = Unit {0}

-- a file is changed before no other error
abbrev pub IsUntouched : {F : Type 0} → OpenFault → F → F → Type 0
IsUntouched (open_faults.OtherHead told) old new = new ≡ old
IsUntouched (open_faults.Lines fault) old new = new ≡ old
IsUntouched (open_faults.CantOpen error) old new = new ≡ old
IsUntouched open_faults.NoFile old new = new ≡ old
IsUntouched open_faults.InUse old new = new ≡ old
IsUntouched (open_faults.NotBegun error) old new = Unit {0}
