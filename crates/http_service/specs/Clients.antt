-- Clients that are let in.
use Rattle.std.specs.Prelude.{◌≡◌, ◌⊎◌, ◌+◌, ℕ, List, Option, Result, Ok, Err}
use Rattle.std.specs.IoError.{error_kind}
use Rattle.std.specs.declared.io.Error.{Error}
use Rattle.std.specs.declared.io.ErrorKind.TheVariants.{ConnectionAborted, ConnectionReset}
use Rattle.http_service.specs.declared.fault.ServeFault.{ServeFault}
use Rattle.http_service.specs.declared.fault.ServeFault.TheVariants.{AcceptFailed, OutOfMemory}
use Rattle.tokio.specs.declared.net.stream.TcpStream.{TcpStream}
use Rattle.http_service.specs.declared.connection.Came.{Came}
use Rattle.http_service.specs.declared.connection.Came.TheVariants.{Client, Gone, Later}
use Rattle.http_service.specs.declared.connection.Clients.{Clients}
use Rattle.http_service.specs.declared.connection.Offer.{Offer}
use Rattle.http_routes.specs.declared.table.RouteSet.{RouteSet}
use Rattle.http_exchange.specs.Keys.{key_in}

-- only the connection is gone that was to be accepted
abbrev pub IsGone : Error → Type 0
IsGone error = (error_kind error ≡ ConnectionAborted) ⊎ (error_kind error ≡ ConnectionReset)

-- A socket is one client more that was let in. One that is gone before isn't counted, and where none can be accepted
-- it is to be tried again.
abbrev pub LetsIn : {A : Type 0} → Result (TcpStream × A) Error → ℕ → ℕ → Came → Type 0
LetsIn (Ok came) had has result = (has ≡ had + 1) × (result ≡ Client came.0)
LetsIn (Err error) had has result =
    (has ≡ had) × ((IsGone error × (result ≡ Gone)) ⊎ (¬ (IsGone error) × (result ≡ Later)))

-- so many clients were let in to what is offered; or no more could be
abbrev pub AreLetIn : Offer → ℕ → Result Clients ServeFault → Type 0
AreLetIn offer wanted (Ok clients) = (clients.let_in ≡ wanted) × (clients.offer ≡ offer)
AreLetIn offer wanted (Err fault) = (fault ≡ AcceptFailed) ⊎ (fault ≡ OutOfMemory)

-- these routes are offered, to who has this key, if there is one
pub record Offers (set : RouteSet) (key : Option (List ℕ)) (offer : Offer) : Type 0 where
  pub routes : offer.set ≡ set
  pub access : key_in offer.access.now ≡ key
