-- What follows from a request whose head was let in, before a node handles it.
use Rattle.std.specs.Prelude.{◌≡◌, ℕ, List, length, nat_lt, Option, Result, Ok, Err, MatchBool, codes}
use Rattle.http_exchange.specs.Seals.{is_altered}
use Rattle.http_exchange.specs.declared.accepted.Asking.{Asking}
use Rattle.http_header.specs.FieldValue.{FieldValue}
use Rattle.http_header.specs.HeaderMap.{Entries}
use Rattle.http_routes.specs.Asked.{AskedValue, RequestValue, nowhere, other_method, known, request_value}
use Rattle.http_routes.specs.Bodies.{IsKept}
use Rattle.http_routes.specs.Replies.{ReplyValue, IsReply, http_value, request_fault_reply, text_reply}
use Rattle.http_routes.specs.declared.http_reply.HttpReply.{HttpReply}
use Rattle.http_routes.specs.declared.request.RequestFault.TheVariants as faults
use Rattle.http_routes.specs.declared.table.Row.{Row}
use Rattle.message_format.specs.Spelling.{max_message}

-- the reply to a message that isn't as it was sent
abbrev pub bad_digest : ReplyValue
bad_digest = text_reply 400 (codes "bad digest")

-- a reply says why nothing is asked
abbrev pub Says : ReplyValue → Result Asking HttpReply → Type 0
Says reply (Ok asking) = ⊥
Says reply (Err given) = IsReply reply (http_value given)

-- this is what is asked of a node
abbrev pub Asks : RequestValue → Row → List ℕ → Result Asking HttpReply → Type 0
Asks request row kept (Ok asking) =
    (request_value asking.request.now ≡ request) × (asking.row ≡ row) × (asking.body.items ≡ kept)
Asks request row kept (Err given) = ⊥

-- What a request with these fields asks of the node of a service with this key, if it has one, with this body: what its
-- route keeps of the body. Nothing is asked where there is no route, or the route hasn't the method, or the body is
-- longer than the longest, or it is a message that isn't as it was sent: the reply says the first of these that fits.
abbrev pub IsAskedBy : Option (List ℕ) → Entries FieldValue → AskedValue → List ℕ → Result Asking HttpReply → Type 0
IsAskedBy key fields nowhere body given = Says (request_fault_reply faults.NotFound) given
IsAskedBy key fields (other_method methods) body given = Says (request_fault_reply faults.BadMethod) given
IsAskedBy key fields (known request row) body given =
    MatchBool (nat_lt max_message (length body)) (Says (request_fault_reply faults.TooLong) given)
    ((kept : List ℕ) × IsKept row.keeps body kept
    × MatchBool (is_altered row.kind key fields kept) (Says bad_digest given) (Asks request row kept given))

-- the reply to a body that is longer than the longest
abbrev pub IsTooLong : AskedValue → ReplyValue → Type 0
IsTooLong nowhere given = IsReply (request_fault_reply faults.NotFound) given
IsTooLong (other_method methods) given = IsReply (request_fault_reply faults.BadMethod) given
IsTooLong (known request row) given = IsReply (request_fault_reply faults.TooLong) given
