-- What a client of a node that a C program serves is answered.
use Rattle.std.specs.Prelude.{◌≡◌, ◌⊎◌, ◌==◌, ℕ, Bool, true, false, List, length, if◌then◌else◌, Option, Some, None, MatchOption, take}
use Rattle.http_exchange.specs.Keys.{key_in}
use Rattle.http_routes.specs.Asked.{AskedValue, known, page}
use Rattle.http_routes.specs.Replies.{IsReply, http_value, no_memory, text_reply}
use Rattle.http_routes.specs.Asked.{asked_value}
use Rattle.http_routes.specs.declared.http_reply.HttpReply.{HttpReply}
use Rattle.http_routes.specs.declared.table.RouteSet.TheVariants.{Served}
use Rattle.http_steps.specs.Stages.{wants_of}
use Rattle.http_steps.specs.declared.coming.WholeRequest.{WholeRequest}
use Rattle.http_steps.specs.declared.connection.Connection.{Connection}
use Rattle.http_steps.specs.declared.connection.Stage.{Stage}
use Rattle.http_steps.specs.declared.connection.Stage.TheVariants as stages
use Rattle.http_steps.specs.declared.connection.Wants.{Wants}
use Rattle.http_steps.specs.declared.connection.Wants.TheVariants as wants
use Rattle.http_steps.specs.declared.service.Service.{Service}
use Rattle.node_for_c.specs.Calls.{FillsFront, said_of}
use Rattle.node_for_c.specs.declared.cluster.Answered.{Answered}
use Rattle.node_for_c.specs.Cluster.{IsAnsweredAs}
use Rattle.node_for_c.specs.declared.serving.ServedReply.{ServedReply}
use Rattle.node_for_c.specs.declared.registry.Registry.{Registry}
use Rattle.operator_page.specs.declared.page.TheConstants.{PAGE}

abbrev pub is_page : AskedValue → Bool
is_page (known page row) = true
is_page _ = false

-- the node was asked, and the reply is what it left to be fetched
pub record IsServedBy (asked : AskedValue) (body : List ℕ) (now : ℕ) (served : ServedReply) (k l : Registry) :
    Type 0 where
  pub mid : Registry
  pub answered : IsAnsweredAs asked body now served.answered k mid
  pub status : served.reply.status ≡ served.answered.status
  pub reply : served.reply.body.items ≡ said_of mid
  pub left : l ≡ record mid { said = l.said; room = l.room }

-- memory for a reply was refused, and the node wasn't asked
abbrev pub IsUnserved : ServedReply → Registry → Registry → Type 0
IsUnserved served k l = (http_value served.reply ≡ no_memory) × (l ≡ k)

-- the reply to a request for the page, or to another one
abbrev pub IsServedAs : Bool → AskedValue → List ℕ → ℕ → ServedReply → Registry → Registry → Type 0
IsServedAs true asked body now served k l = IsReply (text_reply 200 PAGE.now) (http_value served.reply) × (l ≡ k)
IsServedAs false asked body now served k l = IsServedBy asked body now served k l ⊎ IsUnserved served k l

-- The reply to what a client asks: the page, or what the node answers, unless memory for the reply was refused before.
abbrev pub IsServedTo : AskedValue → List ℕ → ℕ → ServedReply → Registry → Registry → Type 0
IsServedTo asked body now served k l = IsServedAs (is_page asked) asked body now served k l

-- ---- what C holds

-- a service of a served node's routes at this port, with this key, or without one if it has no byte
pub record IsServiceOf (number : ℕ) (secret : List ℕ) (service : Service) : Type 0 where
  pub set : service.set ≡ Served
  pub port : service.port ≡ number
  pub key : key_in service.access ≡ (if length secret == 0 then None else Some secret)

-- the number that stands in C for what a connection waits for
abbrev pub wants_number : Wants → ℕ
wants_number wants.Head = 0
wants_number wants.Permit = 1
wants_number wants.Body = 2
wants_number wants.Answer = 3
wants_number wants.Tell = 4
wants_number wants.Write = 5
wants_number wants.Linger = 6
wants_number wants.Close = 7

-- a closed connection waits to be closed
abbrev pub number_wanted : Option Connection → ℕ
number_wanted None = 7
number_wanted (Some connection) = wants_number (wants_of connection)

-- the request of a connection that waits for an answer
abbrev pub asked_in : Stage → Option WholeRequest
asked_in (stages.Asked request) = Some request
asked_in _ = None

-- The request that a connection waits for an answer to is answered by the node, and the connection has the answer.
pub record IsAnsweredOver (now : ℕ) (answered : Answered) (k l : Registry) (request : WholeRequest) (new : Connection) :
    Type 0 where
  pub served : ServedReply
  pub node : IsServedTo (asked_value request.accepted.asked) request.body.items now served k l
  pub told : answered ≡ served.answered
  pub stage : new.stage ≡ stages.Answered request served.reply

abbrev pub IsAnsweredAtC : ℕ → Answered → Registry → Registry → Connection → Connection → Type 0
IsAnsweredAtC now answered k l old new =
    MatchOption (asked_in old.stage) ⊥ (λ request. IsAnsweredOver now answered k l request new)

-- as much of these bytes as there is room for stands at the front, and so many bytes they are
abbrev pub IsCopied : List ℕ → List ℕ → List ℕ → ℕ → Type 0
IsCopied bytes old new count = FillsFront bytes old new × (count ≡ length (take (length old) bytes))
