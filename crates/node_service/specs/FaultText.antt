-- The text of a fault.
use Rattle.std.specs.Prelude.{ℕ, List, Option, Some, None, codes}
use Rattle.http_service.specs.FaultText.{serve_fault_text}
use Rattle.node_calls.specs.FaultText.{node_fault_text}
use Rattle.node_service.specs.declared.fault.ServiceFault.{ServiceFault}
use Rattle.node_service.specs.declared.fault.ServiceFault.TheVariants as faults
use Rattle.part_files.specs.FaultText.{open_fault_text}

-- the text of the fault that it holds; of a failed write nothing is known
abbrev pub service_fault_text : ServiceFault → Option (List ℕ)
service_fault_text (faults.Node fault) = Some (node_fault_text fault)
service_fault_text (faults.Serve fault) = Some (serve_fault_text fault)
service_fault_text (faults.Output error) = None
service_fault_text (faults.Part fault) = Some (open_fault_text fault)
service_fault_text (faults.Key fault) = Some (codes "V7 BadKey")
service_fault_text faults.NotRecorded = Some (codes "V6 NotRecorded")
