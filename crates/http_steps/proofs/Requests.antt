-- The request of a head that is let in.
use Rattle.std.proofs.Common.{◌≡◌, List, ℕ, Result, Ok, Err, IfOk, subst}
use Rattle.http.specs.declared.request.Parts.{Parts}
use Rattle.http1_typed.specs.Parts.{IsRequestParts}
use Rattle.http_steps.specs.Requests.{IsLetIn, IsRequestOf}
use Rattle.http_steps.specs.declared.coming.Coming.{Coming}
use Rattle.http_steps.specs.declared.rejection.Rejection.{Rejection}
use Rattle.http_steps.specs.declared.service.Service.{Service}
use Rattle.httparse.specs.declared.spans.HeaderSpan.{HeaderSpan}
use Rattle.httparse.specs.declared.spans.RequestSpans.{RequestSpans}

-- it is that of the head that came
pub let_in : (result : Result Coming Rejection) (service : Service) (taken came : List ℕ) (spans : List HeaderSpan)
    (head : RequestSpans) (parts : Parts) → taken ≡ came → IsRequestParts taken spans head parts
    → IfOk result (IsLetIn service parts) → IfOk result (IsRequestOf service came spans head)
let_in (Ok coming) service taken came spans head parts same read is =
    (parts, subst (λ (bytes : List ℕ). IsRequestParts bytes spans head parts) same read, is)
let_in (Err rejection) service taken came spans head parts same read is = tt
