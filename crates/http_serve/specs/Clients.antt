-- What a client of a served node is answered, by what it asks for.
use Rattle.std.specs.Prelude.{◌≡◌, ◌⊎◌, ℕ, Bool, true, false, List, codes, Option, None, IsSomeAnd, MatchBool, MatchOption}
use Rattle.node_calls.specs.declared.fault.NodeFault.{NodeFault}
use Rattle.operator_page.specs.declared.page.TheConstants.{PAGE}
use Rattle.http_routes.specs.Asked.{NodeRequestValue, RequestValue}
use Rattle.http_routes.specs.Asked as requests
use Rattle.http_routes.specs.Table.{waits}
use Rattle.http_routes.specs.declared.request.RequestFault.TheVariants.{NotFound}
use Rattle.http_routes.specs.declared.table.Kind.{Kind}
use Rattle.http_routes.specs.declared.table.Kind.TheVariants as kinds
use Rattle.http_routes.specs.declared.table.Row.{Row}
use Rattle.http_routes.specs.Replies.{ReplyValue, IsReply, no_memory, request_fault_reply, text_reply}
use Rattle.report_text.specs.declared.peer_rows.PeerRow.{PeerRow}
use Rattle.peers.specs.declared.heard.Cluster.{Cluster}
use Rattle.peers.specs.declared.heard.Hearing.{Hearing}
use Rattle.http_peers.specs.Answers.{AreRows, IsAwaited}
use Rattle.peers.specs.Hello.{greeting}
use Rattle.peers.specs.Waits.{IsWaiting}
use Rattle.http_service.specs.declared.ending.Ended.{Ended}
use Rattle.http_service.specs.declared.ending.Reason.TheVariants.{Asked}
use Rattle.http_service.specs.Endings.{IsEnded, reason_of}

-- by some rows the call waits for a node, or it is answered by this node
abbrev pub IsAnsweredCall : Hearing → Cluster → (ReplyValue → Type 0) → ReplyValue → Type 0
IsAnsweredCall hearing cluster answers given =
    (node : Option ℕ) × IsAwaited hearing cluster node × MatchOption node (answers given) (λ n. IsWaiting n given)

-- a status shows the other nodes by some rows; or memory was refused
abbrev pub IsAnsweredStatus : Cluster → (List PeerRow → ReplyValue → Type 0) → ReplyValue → Type 0
IsAnsweredStatus cluster shows given =
    ((peers : List PeerRow) × AreRows cluster peers × shows peers given) ⊎ (given ≡ no_memory)

-- where nothing waits, all but a status is the node's answer
abbrev pub IsAnsweredNow : Kind → Cluster → (List PeerRow → ReplyValue → Type 0) → (ReplyValue → Type 0) → ReplyValue →
    Type 0
IsAnsweredNow kinds.Status cluster shows answers given = IsAnsweredStatus cluster shows given
IsAnsweredNow _ cluster shows answers given = answers given

-- what is asked of the node may have to wait
abbrev pub IsAnsweredAs : Kind → Hearing → Cluster → (List PeerRow → ReplyValue → Type 0) → (ReplyValue → Type 0) →
    ReplyValue → Type 0
IsAnsweredAs kind hearing cluster shows answers given =
    MatchBool (waits kind) (IsAnsweredCall hearing cluster answers given)
    (IsAnsweredNow kind cluster shows answers given)

-- what is answered to who ends the service, by whether it can be ended
abbrev pub stop_reply : Bool → ReplyValue
stop_reply true = text_reply 200 (codes "stopping")
stop_reply false = request_fault_reply NotFound

-- the page, that another node will be told, the end of the service, or the answer of the node
abbrev pub AnswersClient : Bool → Hearing → Cluster → (List PeerRow → ReplyValue → Type 0) →
    (NodeRequestValue → List ℕ → ReplyValue → Type 0) → RequestValue → Row → List ℕ → ReplyValue → Type 0
AnswersClient can_end hearing cluster shows answers requests.page row body given =
    IsReply (text_reply 200 PAGE.now) given
AnswersClient can_end hearing cluster shows answers requests.hello row body given = IsReply (greeting cluster body) given
AnswersClient can_end hearing cluster shows answers requests.stop row body given = IsReply (stop_reply can_end) given
AnswersClient can_end hearing cluster shows answers (requests.node request) row body given =
    IsAnsweredAs row.kind hearing cluster shows (answers request body) given

-- where a client asks for the end of the service with this name, it is shown that the service is ended
abbrev pub IsStopped : ℕ → Option Ended → Type 0
IsStopped name ended = IsSomeAnd ended (IsEnded name Asked)

-- the same where the reply to a message has a fault that shows that others know more of the node than it does
abbrev pub IsMet : ℕ → Option NodeFault → Option Ended → Type 0
IsMet name fault ended = MatchOption (reason_of fault) (ended ≡ None) (λ reason. IsSomeAnd ended (IsEnded name reason))
