-- Clients that are let in until their service is ended.
use Rattle.std.proofs.Common.{◌≡◌, ℕ, Result, Ok, refl}
use Rattle.http_service.specs.Clients.{AreLetIn}
use Rattle.http_service.specs.declared.connection.Clients.{Clients}
use Rattle.http_service.specs.declared.connection.Offer.{Offer}
use Rattle.http_service.specs.declared.fault.ServeFault.{ServeFault}

-- what may come of two waits is the same only where they wait for as many, to which the same is offered
pub same_wanted : (offer offered : Offer) (new old : ℕ)
    → ((x : Result Clients ServeFault) → AreLetIn offer new x → AreLetIn offered old x)
    → (new ≡ old) × (offer ≡ offered)
same_wanted offer offered new old same = same (Ok (record { let_in = new; offer = offer })) (refl, refl)
