-- What a connection waits for, and what it sends.
use Rattle.std.specs.Prelude.{◌≡◌, ◌++◌, ◌⊎◌, ◌&&◌, ◌==◌, ℕ, Bool, true, false, List, [], length, if◌then◌else◌}
use Rattle.http_routes.specs.declared.http_reply.HttpReply.{HttpReply}
use Rattle.http_steps.specs.declared.connection.Connection.{Connection}
use Rattle.http_steps.specs.declared.connection.Stage.{Stage}
use Rattle.http_steps.specs.declared.connection.Stage.TheVariants as stages
use Rattle.http_steps.specs.declared.connection.Wants.{Wants}
use Rattle.http_steps.specs.declared.connection.Wants.TheVariants as wants

-- what is still to be sent
abbrev pub bytes_left : Connection → List ℕ
bytes_left c = c.output.items ++ c.body

-- nothing came, and nothing is to be sent
pub record IsNew (c : Connection) : Type 0 where
  pub stage : c.stage ≡ stages.Head
  pub input : c.input.items ≡ []
  pub output : bytes_left c ≡ []

-- these bytes come first, and there are none only if none are left
pub record IsFrontOf (front whole : List ℕ) : Type 0 where
  pub rest : List ℕ
  pub joined : whole ≡ front ++ rest
  pub none : front ≡ [] → whole ≡ []

abbrev pub wants_at : Bool → Stage → Wants
wants_at has_more stages.Head = wants.Head
wants_at has_more (stages.Permit coming) = wants.Permit
wants_at has_more (stages.Body coming) = wants.Body
wants_at has_more (stages.Asked request) = wants.Answer
wants_at has_more (stages.Answered request reply) = wants.Tell
wants_at has_more stages.Replied = if has_more then wants.Linger else wants.Close
wants_at has_more stages.Gone = wants.Close

-- first its output is sent; then it goes by how far its request is
abbrev pub wants_of : Connection → Wants
wants_of c =
    if (length c.output.items == 0) && (length c.body == 0) then wants_at c.has_more c.stage else wants.Write

-- an answer is taken where one is waited for
abbrev pub IsAnsweredBy : HttpReply → Stage → Stage → Type 0
IsAnsweredBy reply (stages.Asked request) new = new ≡ stages.Answered request reply
IsAnsweredBy reply old new = new ≡ old
