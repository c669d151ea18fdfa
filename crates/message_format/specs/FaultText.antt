-- What the faults print.
use Rattle.std.specs.Prelude.{ℕ, List, ◌++◌, codes, decimal}
use Rattle.message_format.specs.declared.fault.WireFault.{WireFault}
use Rattle.message_format.specs.declared.fault.WireFault.TheVariants as faults

-- its number, its name and its field
abbrev pub wire_fault_text : WireFault → List ℕ
wire_fault_text (faults.Magic i) = codes "W1 Magic offset=" ++ decimal i
wire_fault_text (faults.Short i) = codes "W2 Short offset=" ++ decimal i
wire_fault_text (faults.Long i) = codes "W3 Long offset=" ++ decimal i
wire_fault_text (faults.BadNode i) = codes "W4 BadNode offset=" ++ decimal i
wire_fault_text (faults.NameOrder i) = codes "W5 NameOrder offset=" ++ decimal i
wire_fault_text (faults.BadName i) = codes "W6 BadName offset=" ++ decimal i
wire_fault_text (faults.BadBody i) = codes "W7 BadBody offset=" ++ decimal i
wire_fault_text (faults.NotCanonical i) = codes "W8 NotCanonical offset=" ++ decimal i
wire_fault_text (faults.CellOrder i) = codes "W9 CellOrder offset=" ++ decimal i
wire_fault_text (faults.ZeroCell i) = codes "W10 ZeroCell offset=" ++ decimal i
wire_fault_text (faults.BadTerm i) = codes "W11 BadTerm offset=" ++ decimal i
wire_fault_text (faults.TooBig i) = codes "W12 TooBig offset=" ++ decimal i
wire_fault_text faults.OutOfMemory = codes "W13 OutOfMemory"
wire_fault_text (faults.NoGrant i) = codes "W14 NoGrant offset=" ++ decimal i
