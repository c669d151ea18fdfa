-- Which heads a service lets in.
use Rattle.std.specs.Prelude.{◌≡◌, ◌==◌, ⊤, ℕ, Bool, false, not, List, drop, Option, Some, None, codes}
use Rattle.std.specs.List.{position, starts_with}
use Rattle.http.specs.declared.request.Parts.{Parts}
use Rattle.http.specs.Uri.{uri_path}
use Rattle.http1.specs.ReadError.{is_line_end}
use Rattle.http_exchange.specs.Heads.{refusal_of}
use Rattle.http_exchange.specs.Hosts.{authority_of}
use Rattle.http_exchange.specs.Keys.{key_in, key_need}
use Rattle.http_exchange.specs.declared.accepted.Accepted.{Accepted}
use Rattle.http_exchange.specs.declared.heads.Refusal.{Refusal}
use Rattle.http_routes.specs.Asked.{AskedValue, asked_of, asked_value}
use Rattle.http_steps.specs.declared.rejection.Rejection.{Rejection}
use Rattle.http_steps.specs.declared.rejection.Rejection.TheVariants as rejections
use Rattle.http_steps.specs.declared.service.Service.{Service}

-- what a head of these parts asks for
abbrev pub asked_by : Service → Parts → AskedValue
asked_by service parts = asked_of service.set parts.method (uri_path parts.uri)

-- why it is refused, if it is
abbrev pub refusal_to : Service → Parts → Option Refusal
refusal_to service parts =
    refusal_of (key_in service.access) (key_need (asked_by service parts)) service.port (authority_of parts.uri)
    parts.headers

-- it is let in, and this is what it asks for
pub record IsAcceptedBy (service : Service) (parts : Parts) (accepted : Accepted) : Type 0 where
  pub let_in : refusal_to service parts ≡ None
  pub asked : asked_value accepted.asked ≡ asked_by service parts
  pub key : key_in accepted.access ≡ key_in service.access
  pub need : accepted.admitted.need ≡ key_need (asked_by service parts)

-- it isn't let in, and this is why; or memory is refused
abbrev pub IsRejectedBy : Service → Parts → Rejection → Type 0
IsRejectedBy service parts (rejections.Refused refusal) = refusal_to service parts ≡ Some refusal
IsRejectedBy service parts rejections.NoMemory = ⊤
IsRejectedBy service parts _ = ⊥

-- the first line that isn't empty has the method `HEAD`
abbrev pub begins_at : List ℕ → Option ℕ → Bool
begins_at bytes None = false
begins_at bytes (Some at) = starts_with (λ (a b : ℕ). a == b) (drop at bytes) (codes "HEAD ")

abbrev pub begins_with_head : List ℕ → Bool
begins_with_head bytes = begins_at bytes (position (λ byte. not (is_line_end byte)) bytes)
