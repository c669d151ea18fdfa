-- How a service is ended before all clients were let in that it waits for.
use Rattle.std.specs.Prelude.{◌≡◌, ◌⊎◌, ◌≤◌, ℕ, Option, Some, None, Result, Ok, Err, IfSome}
use Rattle.node_calls.specs.declared.fault.NodeFault.{NodeFault}
use Rattle.node_calls.specs.declared.fault.NodeFault.TheVariants as faults
use Rattle.http_service.specs.declared.ending.Reason.{Reason}
use Rattle.http_service.specs.declared.ending.Reason.TheVariants.{OwnAhead, AckAhead}
use Rattle.http_service.specs.declared.ending.Ended.{Ended}
use Rattle.http_service.specs.declared.ending.Ended.TheVariants as ended
use Rattle.http_service.specs.declared.ending.Served.{Served}
use Rattle.http_service.specs.declared.connection.Offer.{Offer}
use Rattle.http_service.specs.declared.until_ended.LetIn.{LetIn}
use Rattle.http_service.specs.declared.until_ended.LetIn.TheVariants as let_in
use Rattle.http_service.specs.declared.fault.ServeFault.{ServeFault}
use Rattle.http_service.specs.declared.fault.ServeFault.TheVariants.{AcceptFailed, OutOfMemory}

-- what of a reply shows that others know more of the node than it does: the fault by which the node rejects a message
abbrev pub reason_of : Option NodeFault → Option Reason
reason_of (Some faults.OwnAhead) = Some OwnAhead
reason_of (Some faults.AckAhead) = Some AckAhead
reason_of _ = None

-- It is shown that the service is ended whose end has this name: where it is by that, for the reason that was given.
-- What shows it of one end shows one reason, which is the first one's.
abbrev pub IsEnded : ℕ → Reason → Ended → Type 0
IsEnded name reason (ended.Now token) = (token.of ≡ name) × (token.value ≡ reason)
IsEnded name reason (ended.Before token) = token.of ≡ name

-- as many clients were let in to what is offered as were wanted; or where the service was ended, no more than that; or no more could be
abbrev pub AreLetInOrEnded : Offer → ℕ → Result LetIn ServeFault → Type 0
AreLetInOrEnded offer wanted (Ok (let_in.All clients)) = (clients.let_in ≡ wanted) × (clients.offer ≡ offer)
AreLetInOrEnded offer wanted (Ok (let_in.Ended clients)) = (clients.let_in ≤ wanted) × (clients.offer ≡ offer)
AreLetInOrEnded offer wanted (Err fault) = (fault ≡ AcceptFailed) ⊎ (fault ≡ OutOfMemory)

-- As many clients were served as were wanted, unless the service was ended early, whose end has this name: then no more,
-- and it is shown that it was ended.
pub record IsServedTo (wanted name : ℕ) (served : Served) : Type 0 where
  pub all : served.early ≡ None → served.clients.let_in ≡ wanted
  pub most : served.clients.let_in ≤ wanted
  pub shown : IfSome served.early (λ token. token.of ≡ name)
