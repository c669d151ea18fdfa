-- What the faults print.
use Rattle.std.specs.Prelude.{ℕ, List, ◌++◌, codes, decimal}
use Rattle.actions.specs.declared.fault.ActionFault.{ActionFault}
use Rattle.actions.specs.declared.fault.ActionFault.TheVariants as faults
use Rattle.actions.specs.declared.fault.SettingFault.{SettingFault}
use Rattle.actions.specs.declared.fault.SettingFault.TheVariants as settings
use Rattle.actions.specs.declared.name.NameFault.{NameFault}
use Rattle.actions.specs.declared.name.NameFault.TheVariants as names

-- its number, its name and its field
abbrev pub fault_text : ActionFault → List ℕ
fault_text faults.TooLong = codes "A1 TooLong"
fault_text faults.TooManyTerms = codes "A2 TooManyTerms"
fault_text (faults.Unclosed k) = codes "A3 Unclosed term=" ++ decimal k
fault_text (faults.BadPercent k) = codes "A4 BadPercent term=" ++ decimal k
fault_text (faults.BadCount k) = codes "A5 BadCount term=" ++ decimal k
fault_text (faults.NoTask k) = codes "A6 NoTask term=" ++ decimal k
fault_text (faults.UnknownTask k) = codes "A7 UnknownTask term=" ++ decimal k
fault_text (faults.NeedsTime k) = codes "A8 NeedsTime term=" ++ decimal k
fault_text (faults.BadTime k) = codes "A9 BadTime term=" ++ decimal k
fault_text (faults.BadByte i) = codes "A10 BadByte offset=" ++ decimal i
fault_text faults.OutOfMemory = codes "A11 OutOfMemory"

abbrev pub name_fault_text : NameFault → List ℕ
name_fault_text names.BadName = codes "BadName"
name_fault_text names.OutOfMemory = codes "OutOfMemory"

-- its number, its name and its fields; the fault of the actions that it holds stands last
abbrev pub setting_fault_text : SettingFault → List ℕ
setting_fault_text settings.TooLong = codes "S1 TooLong"
setting_fault_text (settings.NoEquals k) = codes "S2 NoEquals entry=" ++ decimal k
setting_fault_text (settings.BadName k) = codes "S3 BadName entry=" ++ decimal k
setting_fault_text (settings.BadActions k fault) =
    codes "S4 BadActions entry=" ++ (decimal k ++ (codes " " ++ fault_text fault))
setting_fault_text settings.OutOfMemory = codes "S5 OutOfMemory"
