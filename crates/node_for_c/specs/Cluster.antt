-- What C gets of a node among the others of its cluster, and what each call leaves of the registry.
use Rattle.std.specs.Prelude.{◌≡◌, ◌==◌, ◌&&◌, ℕ, Bool, true, false, not, is_none, is_some, if◌then◌else◌, List, [], length, MatchOption, Option, Some, None}
use Rattle.http_routes.specs.declared.table.Kind.{Kind}
use Rattle.http_routes.specs.declared.table.Kind.TheVariants as kinds
use Rattle.http_routes.specs.declared.table.RouteSet.TheVariants.{Cluster}
use Rattle.http_routes.specs.Answers.{Comes, head_of}
use Rattle.http_routes.specs.Asked.{AskedValue, NodeRequestValue, asked_of, fault_of}
use Rattle.http_routes.specs.Asked as asks
use Rattle.http_routes.specs.Replies.{ReplyValue, IsReply, text_reply}
use Rattle.http_routes.specs.Requests.{WantedValue, wanted_asked}
use Rattle.node_calls.specs.declared.fault.NodeFault.{NodeFault}
use Rattle.node_calls.specs.Asks.{IsDelivered}
use Rattle.node_calls.specs.FaultCodes.{code_of}
use Rattle.node_core.specs.Traces.{Accepts, IsRefusalOf, Kept, delivery_of, node_of, state_known}
use Rattle.gossip_pace.specs.Senders.{sender_of}
use Rattle.peers.specs.declared.code.Outcome.{Outcome}
use Rattle.peers.specs.declared.code.Outcome.TheVariants.{Accepted}
use Rattle.peers.specs.declared.pacing.Due.{Due}
use Rattle.peers.specs.declared.pacing.Due.TheVariants.{Nothing, Tell, Ask}
use Rattle.peers.specs.Book.{book_asked, book_looked, book_noted, due_of}
use Rattle.peers.specs.Codes.{outcome_of, unaccepted}
use Rattle.peers.specs.Heard.{awaited, peer_rows}
use Rattle.peers.specs.Hello.{greeting}
use Rattle.peers.specs.Waits.{IsWaiting}
use Rattle.report_text.specs.Status.{status_json_text}
use Rattle.node_for_c.specs.Answered.{IsAnsweredTo, MayLackMemoryTo, reply_left}
use Rattle.node_for_c.specs.declared.cluster.Answered.{Answered}
use Rattle.node_for_c.specs.declared.cluster.Course.{Course}
use Rattle.node_for_c.specs.declared.cluster.Course.TheVariants as courses
use Rattle.node_for_c.specs.declared.registry.Answer.{Answer}
use Rattle.node_for_c.specs.declared.registry.Registry.{Registry}

-- ---- messages

-- an accepted message: it is noted as heard from its sender now, and nothing else changed but the node
abbrev pub IsTakenAt : List ℕ → ℕ → Bool → Registry → Registry → Type 0
IsTakenAt message now changed k l =
    Accepts k.core l.core (delivery_of k.core message) [] (IsDelivered changed) ×
    (l ≡ record k { core = l.core; book = book_noted (sender_of message) Accepted now k.book })

-- a rejected one: the fault is kept, and noted in the row of the sender
abbrev pub IsLeftNoting : List ℕ → ℕ → ℕ → Registry → Registry → Type 0
IsLeftNoting message now status k l =
    (l ≡ record k { fault = l.fault; book = l.book }) ×
    MatchOption l.fault ⊥ (λ f. (status ≡ code_of f) × IsRefusalOf k.core (delivery_of k.core message) [] f ×
    (l.book ≡ book_noted (sender_of message) (unaccepted (Some f)) now k.book))

-- ---- requests

-- the node that calls wait for, if they wait
abbrev pub awaited_in : Registry → Option ℕ
awaited_in k = awaited k.book.hearing k.book.cluster k.book.heard.rows

-- what is done with a request of the node, by the node that calls wait for, if they wait
abbrev pub course_by : Kind → Option ℕ → Course
course_by kinds.Call (Some node) = courses.Wait node
course_by kinds.Call None = courses.Answer
course_by kinds.Status _ = courses.Show
course_by kinds.Delivery _ = courses.Hear
course_by _ _ = courses.Answer

abbrev pub course_known : AskedValue → Option ℕ → Course
course_known (asks.known asks.hello row) waited = courses.Greet
course_known (asks.known (asks.node request) row) waited = course_by row.kind waited
course_known _ waited = courses.Answer

-- what is done with a request with a body of so many bytes: what asks nothing is answered as by a node alone
abbrev pub course_of : AskedValue → ℕ → Option ℕ → Course
course_of asked size node = if is_some (fault_of asked size) then courses.Answer else course_known asked node

-- the reply to a message is that of the node, and it is noted in the row of the sender what the message came to
abbrev pub IsHeardAt : WantedValue → List ℕ → ℕ → Answer → Registry → Registry → Type 0
IsHeardAt wanted body now answer k l =
    Comes k.core wanted l.core (reply_left answer l) ×
    (l ≡ record k {
      core = l.core;
      said = l.said;
      room = l.room;
      book = book_noted (sender_of body) (outcome_of (reply_left answer l)) now k.book;
    })

abbrev pub AnswersBy : Course → WantedValue → List ℕ → ℕ → Answer → Registry → Registry → Type 0
AnswersBy courses.Greet wanted body now answer k l =
    IsReply (greeting k.book.cluster body) (reply_left answer l) ×
    (l ≡ record k { said = l.said; book = book_asked body k.book })
AnswersBy (courses.Wait node) wanted body now answer k l =
    IsWaiting node (reply_left answer l) × (l ≡ record k { said = l.said })
AnswersBy courses.Show wanted body now answer k l =
    IsReply (text_reply 200 (status_json_text (head_of k.core) (state_known k.core)
    (Some (peer_rows k.book.cluster k.book.heard.rows)))) (reply_left answer l) ×
    (l ≡ record k { said = l.said })
AnswersBy courses.Hear wanted body now answer k l = IsHeardAt wanted body now answer k l
AnswersBy courses.Answer wanted body now answer k l = IsAnsweredTo wanted answer k l

-- a message, or what a node alone answers, is out of memory only if the node needed some
abbrev pub LacksMemoryBy : Course → WantedValue → Answer → Registry → Registry → Type 0
LacksMemoryBy courses.Hear wanted answer k l = MayLackMemoryTo wanted answer k l
LacksMemoryBy courses.Answer wanted answer k l = MayLackMemoryTo wanted answer k l
LacksMemoryBy _ wanted answer k l = Unit {0}

-- a request may change which points are set, or to what
abbrev pub sets_points : NodeRequestValue → Bool
sets_points (asks.set name) = true
sets_points (asks.remove name) = true
sets_points asks.load = true
sets_points (asks.set_spread name) = true
sets_points asks.deliver = true
sets_points _ = false

abbrev pub may_set : AskedValue → Bool
may_set (asks.known (asks.node request) row) = sets_points request
may_set _ = false

abbrev pub fault_number : Option NodeFault → ℕ
fault_number None = 0
fault_number (Some fault) = code_of fault

-- how many accepted calls changed what the node knows
abbrev pub version_in : Registry → ℕ
version_in k = (node_of k.core).marks.version

-- the result for a request that isn't answered
abbrev pub unanswered : Answered
unanswered = record { status = 0; fault = 0; changes_settings = false; has_heard_all = false }

-- what C gets with the body
abbrev pub IsToldOf : AskedValue → Answer → Answered → Registry → Registry → Type 0
IsToldOf asked answer told k l =
    (told.status ≡ answer.status) × (told.fault ≡ fault_number answer.fault) ×
    (told.changes_settings ≡ (may_set asked && not (version_in l == version_in k))) ×
    (told.has_heard_all ≡ (is_some (awaited_in k) && is_none (awaited_in l)))

abbrev pub IsAnsweredAs : AskedValue → List ℕ → ℕ → Answered → Registry → Registry → Type 0
IsAnsweredAs asked body now told k l =
    (answer : Answer) × IsToldOf asked answer told k l ×
    AnswersBy (course_of asked (length body) (awaited_in k)) (wanted_asked asked body) body now answer k l ×
    LacksMemoryBy (course_of asked (length body) (awaited_in k)) (wanted_asked asked body) answer k l

-- a request is answered as by a served node of a cluster, at this time
abbrev pub IsAnsweredAt : List ℕ → List ℕ → List ℕ → ℕ → Answered → Registry → Registry → Type 0
IsAnsweredAt method path body now told k l = IsAnsweredAs (asked_of Cluster method path) body now told k l

-- ---- rounds

abbrev pub due_number : Due → ℕ
due_number Nothing = 0
due_number Tell = 1
due_number Ask = 2

-- another node was looked at
abbrev pub IsLooked : ℕ → ℕ → Registry → Registry → Type 0
IsLooked peer due k l =
    (due ≡ due_number (due_of k.core peer k.book)) × (l ≡ record k { book = book_looked k.core peer k.book })
