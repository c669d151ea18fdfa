-- What C is told of a request, and what the request leaves of the registry.
use Rattle.std.specs.Prelude.{◌≡◌, ℕ, List, IsUtf8}
use Rattle.http_routes.specs.declared.table.RouteSet.TheVariants.{Library}
use Rattle.http_routes.specs.Requests.{WantedValue, wanted_from}
use Rattle.http_routes.specs.Answers.{Comes}
use Rattle.http_routes.specs.Memory.{IsOutOfMemory, NeedsMemory}
use Rattle.http_routes.specs.Replies.{ReplyValue}
use Rattle.node_for_c.specs.Numbers.{not_text}
use Rattle.node_for_c.specs.Calls.{said_of}
use Rattle.node_for_c.specs.declared.registry.Answer.{Answer}
use Rattle.node_for_c.specs.declared.registry.Registry.{Registry}

-- the reply of an answer, whose body is to be fetched
abbrev pub reply_left : Answer → Registry → ReplyValue
reply_left answer l = record { status = answer.status; body = said_of l; fault = answer.fault }

-- the reply is that to what is wanted of the node, which made the calls that were wanted, if any
abbrev pub IsAnsweredTo : WantedValue → Answer → Registry → Registry → Type 0
IsAnsweredTo wanted answer k l =
    Comes k.core wanted l.core (reply_left answer l) ×
    (l ≡ record k { core = l.core; said = l.said; room = l.room })

-- it says that memory was refused only where memory was needed
abbrev pub MayLackMemoryTo : WantedValue → Answer → Registry → Registry → Type 0
MayLackMemoryTo wanted answer k l = IsOutOfMemory (reply_left answer l) → NeedsMemory k.core wanted

-- the same by the library's routes
abbrev pub IsAnswered : List ℕ → List ℕ → List ℕ → Answer → Registry → Registry → Type 0
IsAnswered method path body answer k l = IsAnsweredTo (wanted_from Library method path body) answer k l

abbrev pub MayLackMemory : List ℕ → List ℕ → List ℕ → Answer → Registry → Registry → Type 0
MayLackMemory method path body answer k l = MayLackMemoryTo (wanted_from Library method path body) answer k l

-- some fault of the node's, or none, goes with this status
abbrev pub IsAnsweredWith : List ℕ → List ℕ → List ℕ → ℕ → Registry → Registry → Type 0
IsAnsweredWith method path body status k l =
    (answer : Answer) × (answer.status ≡ status) × IsAnswered method path body answer k l
    × MayLackMemory method path body answer k l

-- the method or the path isn't UTF-8
abbrev pub IsNoRequest : List ℕ → List ℕ → ℕ → Type 0
IsNoRequest method path status = (status ≡ not_text) × ((IsUtf8 method × IsUtf8 path) → ⊥)
