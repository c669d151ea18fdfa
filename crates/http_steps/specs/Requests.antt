-- The request of a connection.
use Rattle.std.specs.Prelude.{◌≡◌, ◌++◌, ℕ, List, [], Option, Some, None, Result, Ok, Err, Vec}
use Rattle.std.specs.Global.{Global}
use Rattle.http.specs.declared.request.Parts.{Parts}
use Rattle.http1_typed.specs.Parts.{IsRequestParts}
use Rattle.http_exchange.specs.Accepted.{IsAskedBy}
use Rattle.http_exchange.specs.Keeping.{HasCome}
use Rattle.http_exchange.specs.Keys.{key_in}
use Rattle.http_exchange.specs.Labels.{labels_of}
use Rattle.http_exchange.specs.declared.accepted.Accepted.{Accepted}
use Rattle.http_exchange.specs.declared.accepted.Asking.{Asking}
use Rattle.http_exchange.specs.declared.kept_body.KeptBody.{KeptBody}
use Rattle.http_exchange.specs.declared.labels.Labels.{Labels}
use Rattle.http_header.specs.FieldValue.{FieldValue}
use Rattle.http_header.specs.HeaderMap.{Entries}
use Rattle.http_routes.specs.Asked.{asked_value, keeps_of}
use Rattle.http_routes.specs.declared.http_reply.HttpReply.{HttpReply}
use Rattle.http_routes.specs.declared.table.Keeps.{Keeps}
use Rattle.http_steps.specs.Heads.{IsAcceptedBy}
use Rattle.http_steps.specs.declared.coming.Coming.{Coming}
use Rattle.http_steps.specs.declared.coming.Whole.{Whole}
use Rattle.http_steps.specs.declared.coming.WholeRequest.{WholeRequest}
use Rattle.http_steps.specs.declared.connection.Stage.{Stage}
use Rattle.http_steps.specs.declared.connection.Stage.TheVariants as stages
use Rattle.http_steps.specs.declared.service.Service.{Service}
use Rattle.httparse.specs.declared.spans.HeaderSpan.{HeaderSpan}
use Rattle.httparse.specs.declared.spans.RequestSpans.{RequestSpans}

-- the request of a head of these parts, which is let in; nothing of its body came yet
pub record IsLetIn (service : Service) (parts : Parts) (coming : Coming) : Type 0 where
  pub accepted : IsAcceptedBy service parts coming.accepted
  pub fields : coming.fields ≡ parts.headers
  pub kept : HasCome (keeps_of (asked_value coming.accepted.asked)) coming.kept []

-- the same of a head whose parts lie under these spans of what came
abbrev pub IsRequestOf : Service → List ℕ → List HeaderSpan → RequestSpans → Coming → Type 0
IsRequestOf service came spans head coming =
    (parts : Parts) × IsRequestParts came spans head parts × IsLetIn service parts coming

-- these bytes came, whatever came before
abbrev pub KeepsMore : KeptBody → List ℕ → KeptBody → Type 0
KeepsMore old more new = (keeps : Keeps) (came : List ℕ) → HasCome keeps old came → HasCome keeps new (came ++ more)

-- what of a body is asked with that is these bytes, or the reply that says why nothing is asked
abbrev pub IsBodyAsked : Accepted → Entries FieldValue → List ℕ → Result (Vec ℕ Global) HttpReply → Type 0
IsBodyAsked accepted fields came (Ok body) =
    (asking : Asking) × (asking.body ≡ body)
    × IsAskedBy (key_in accepted.access) fields (asked_value accepted.asked) came (Ok asking)
IsBodyAsked accepted fields came (Err reply) =
    IsAskedBy (key_in accepted.access) fields (asked_value accepted.asked) came (Err reply)

-- the request whose body is these bytes, or why nothing is asked by it
abbrev pub IsWholeBy : Coming → List ℕ → Result WholeRequest (HttpReply × Labels) → Type 0
IsWholeBy coming came (Ok request) =
    (request.accepted ≡ coming.accepted) × (request.fields ≡ coming.fields)
    × IsBodyAsked coming.accepted coming.fields came (Ok request.body)
IsWholeBy coming came (Err given) =
    (given.1 ≡ labels_of (asked_value coming.accepted.asked) given.0.status)
    × IsBodyAsked coming.accepted coming.fields came (Err given.0)

-- a whole request, as its program sees it
pub record IsWholeOf (request : WholeRequest) (whole : Whole) : Type 0 where
  pub asked : whole.asked.now ≡ request.accepted.asked
  pub body : whole.body.now ≡ request.body.items

-- it is there once the request is whole
abbrev pub IsRequestIn : Stage → Option Whole → Type 0
IsRequestIn (stages.Asked request) (Some whole) = IsWholeOf request whole
IsRequestIn (stages.Asked request) None = ⊥
IsRequestIn _ given = given ≡ None
