-- What a refused drill prints, and what parts that join to none do.
use Rattle.std.specs.Prelude.{ℕ, List, ◌++◌, codes, decimal}
use Rattle.drills.specs.declared.fault.DrillFault.{DrillFault}
use Rattle.drills.specs.declared.fault.DrillFault.TheVariants.{BadLine, OutOfMemory, ReadFailed, WriteFailed}
use Rattle.drills.specs.declared.join_fault.JoinFault.{JoinFault}
use Rattle.drills.specs.declared.join_fault.JoinFault.TheVariants.{NoPart, OtherDrill, SamePart}
use Rattle.drills.specs.declared.join_fault.JoinFault.TheVariants as joining

abbrev pub drill_fault_text : DrillFault → List ℕ
drill_fault_text ReadFailed = codes "P2 ReadFailed"
drill_fault_text WriteFailed = codes "P3 WriteFailed"
drill_fault_text OutOfMemory = codes "P4 OutOfMemory"
drill_fault_text (BadLine line) = codes "P5 BadLine line=" ++ decimal line

abbrev pub join_fault_text : JoinFault → List ℕ
join_fault_text (OtherDrill file) = codes "P6 OtherDrill file=" ++ decimal file
join_fault_text (SamePart node) = codes "P7 SamePart node=" ++ decimal node
join_fault_text (NoPart node) = codes "P8 NoPart node=" ++ decimal node
join_fault_text joining.OutOfMemory = codes "P4 OutOfMemory"
