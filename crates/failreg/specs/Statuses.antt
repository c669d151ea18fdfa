-- Exit statuses of a command line that asks for no run, and of a node that was served.
use Rattle.std.specs.Prelude.{ℕ, Option, Some, None}
use Rattle.http_service.specs.declared.ending.Reason.{Reason}
use Rattle.http_service.specs.declared.ending.Reason.TheVariants.{Asked, OwnAhead, AckAhead}
use Rattle.node_calls.specs.declared.fault.NodeFault.{NodeFault}
use Rattle.node_calls.specs.declared.fault.NodeFault.TheVariants as faults
use Rattle.clap.specs.declared.error.kind.ErrorKind.{ErrorKind}
use Rattle.clap.specs.declared.error.kind.ErrorKind.TheVariants.{DisplayHelp, DisplayVersion}

-- of a command line that asks for no run: 0 for help and the version, and 2 for a mistake
abbrev pub unread_status : ErrorKind → ℕ
unread_status DisplayHelp = 0
unread_status DisplayVersion = 0
unread_status _ = 2

-- of a node that was served: 0 where as many clients came as were wanted, or one ended the service, and 4 where it was
-- ended since the node has forgotten what it did
abbrev pub early_status : Option Reason → ℕ
early_status None = 0
early_status (Some Asked) = 0
early_status (Some OwnAhead) = 4
early_status (Some AckAhead) = 4

-- the fault that showed that it has, which is told
abbrev pub forgotten : Option Reason → Option NodeFault
forgotten None = None
forgotten (Some Asked) = None
forgotten (Some OwnAhead) = Some faults.OwnAhead
forgotten (Some AckAhead) = Some faults.AckAhead
