-- What is printed where calls can't be made again.
use Rattle.std.specs.Prelude.{ℕ, List, ◌++◌, codes, decimal}
use Rattle.node_core.specs.declared.resume_fault.ResumeFault.{ResumeFault}
use Rattle.node_core.specs.declared.resume_fault.ResumeFault.TheVariants.{BadConfig, Differs, OutOfMemory}

abbrev pub resume_fault_text : ResumeFault → List ℕ
resume_fault_text BadConfig = codes "N21 BadConfig"
resume_fault_text OutOfMemory = codes "N22 OutOfMemory"
resume_fault_text (Differs index) = codes "N23 Differs index=" ++ decimal index
