-- What is printed of a fault.
use Rattle.std.specs.Prelude.{ℕ, List, codes}
use Rattle.http_service.specs.declared.fault.ServeFault.{ServeFault}
use Rattle.http_service.specs.declared.fault.ServeFault.TheVariants.{BindFailed, AcceptFailed, OutOfMemory}

-- its number and its name
abbrev pub serve_fault_text : ServeFault → List ℕ
serve_fault_text BindFailed = codes "V1 BindFailed"
serve_fault_text AcceptFailed = codes "V2 AcceptFailed"
serve_fault_text OutOfMemory = codes "V3 OutOfMemory"
