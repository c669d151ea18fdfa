-- What a script's fault prints.
use Rattle.std.specs.Prelude.{ℕ, List, ◌++◌, codes, decimal}
use Rattle.streams.specs.declared.fault.ScriptFault.{ScriptFault}
use Rattle.streams.specs.declared.fault.ScriptFault.TheVariants.{TooLong, ReadFailed, WriteFailed, OutOfMemory, BadLine}

-- its number, its name and its line
abbrev pub script_fault_text : ScriptFault → List ℕ
script_fault_text TooLong = codes "P1 TooLong"
script_fault_text ReadFailed = codes "P2 ReadFailed"
script_fault_text WriteFailed = codes "P3 WriteFailed"
script_fault_text OutOfMemory = codes "P4 OutOfMemory"
script_fault_text (BadLine line) = codes "P5 BadLine line=" ++ decimal line
