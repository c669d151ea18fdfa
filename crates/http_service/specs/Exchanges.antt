-- What a request comes to whose body comes in frames.
use Rattle.std.specs.Prelude.{◌≡◌, ◌⊎◌, ◌<◌, ◌+◌, ◌++◌, ℕ, List, [], length, map, nat_lt, vec_capacity, Option, Some, None, Result, Ok, Err, MatchBool, MatchOption, option_map, IfSome, IsSomeAnd, IsTrue, IsFalse, ◌↔◌, unwrap_or}
use Rattle.std.specs.Arc.{arc_value}
use Rattle.message_format.specs.Spelling.{max_message}
use Rattle.futures.specs.Runs.{Runs}
use Rattle.http.specs.StatusCode.{IsStatusCode}
use Rattle.http.specs.declared.request.Request.{Request}
use Rattle.http.specs.declared.response.Response.{Response}
use Rattle.http.specs.Request as request
use Rattle.http_header.specs.FieldValue.{FieldValue}
use Rattle.http_header.specs.HeaderMap.{Entries}
use Rattle.http_body.specs.declared.frame.Frame.{Frame}
use Rattle.http_body.specs.Frame.{bytes_in, joined_data}
use Rattle.http_body_util.specs.declared.full.Full.{Full}
use Rattle.http_body_util.specs.declared.limited.Limited.{Limited}
use Rattle.http_body_util.specs.declared.limited.LimitedError.{LimitedError}
use Rattle.http_body_util.specs.declared.limited.LimitedError.TheVariants.{LengthLimit, Body}
use Rattle.http_body_util.specs.Limited.{Limits}
use Rattle.http_routes.specs.Asked.{AskedValue, RequestValue, nowhere, other_method, known, asked_of, asked_value, keeps_of}
use Rattle.http_routes.specs.Bodies.{IsKept}
use Rattle.http_routes.specs.declared.table.Keeps.{Keeps}
use Rattle.http_routes.specs.declared.table.Keeps.TheVariants.{Nothing}
use Rattle.http_routes.specs.declared.request.RequestFault.TheVariants as faults
use Rattle.http_routes.specs.declared.table.Row.{Row}
use Rattle.http_routes.specs.declared.http_reply.HttpReply.{HttpReply}
use Rattle.http_routes.specs.Replies.{ReplyValue, IsReply, http_value, no_memory, request_fault_reply}
use Rattle.http.specs.Uri.{uri_path}
use Rattle.hyper.specs.declared.body.incoming.Incoming.{Incoming}
use Rattle.hyper.specs.declared.error.Error.{Error}
use Rattle.hyper.specs.declared.error.Kind.TheVariants as kinds
use Rattle.hyper.specs.Error.{kind_of}
use Rattle.hyper.specs.Incoming.{IncomingYields, size_left}
use Rattle.http_service.specs.declared.connection.Offer.{Offer}
use Rattle.http_service.specs.declared.exchange.ConnectionService.{ConnectionService}
use Rattle.http_service.specs.declared.exchange.Exchange.{Exchange}
use Rattle.http_service.specs.declared.exchange.Reading.{Reading}
use Rattle.http_exchange.specs.Accepted.{bad_digest}
use Rattle.http_exchange.specs.declared.heads.Admitted.{Admitted}
use Rattle.http_exchange.specs.declared.heads.Refusal.{Refusal}
use Rattle.http_exchange.specs.declared.labels.Labels.{Labels}
use Rattle.http_exchange.specs.declared.kept_body.KeptBody.{KeptBody}
use Rattle.http_service.specs.declared.question.Question.{Question}
use Rattle.http_exchange.specs.Keeping.{HasCome}
use Rattle.http_exchange.specs.Labels.{labels_of, plain_labels}
use Rattle.http_exchange.specs.Responses.{IsResponseTo}
use Rattle.http_exchange.specs.Heads.{refusal_labels, refusal_of, refusal_reply}
use Rattle.http_exchange.specs.Seals.{is_altered}
use Rattle.http_exchange.specs.Hosts.{authority_of}
use Rattle.http_exchange.specs.Keys.{key_in, key_need}
use Rattle.http_service.specs.declared.exchange.Reading.TheVariants as readings

-- a connection's requests are those of the routes that are offered, of who has the access that is
pub record IsOffered {H R : Type 0} (offer : Offer) (service : ConnectionService H R) : Type 0 where
  pub routes : service.set ≡ offer.set
  pub access : key_in service.access ≡ key_in offer.access.now

-- a frame of a body, or why there is none
abbrev pub Piece : Type 0
Piece = Result (Frame (List ℕ)) (LimitedError Error)

-- what may come of a body, which ends in an error where it is longer than its limit
abbrev pub pieces_of : {I : Type 0} → Limited (Incoming I) → Runs Piece
pieces_of body = Limits (λ bytes. bytes) (IncomingYields body.inner) body.remaining

-- By a frame the reading goes on with the frame's bytes added, or it ends as out of memory, but only where they didn't
-- fit into the room that there was. By the body's end, or an error, it ends as that says.
abbrev pub TakesIn : ℕ → Option Piece → List ℕ → List ℕ → Option Reading → Type 0
TakesIn room None had has ended = (ended ≡ Some readings.Whole) × (has ≡ had)
TakesIn room (Some (Ok frame)) had has ended =
    ((ended ≡ None) × (has ≡ had ++ bytes_in frame.kind))
    ⊎ ((ended ≡ Some readings.NoMemory) × (room < length had + length (bytes_in frame.kind)))
TakesIn room (Some (Err LengthLimit)) had has ended = ended ≡ Some readings.TooLong
TakesIn room (Some (Err (Body error))) had has ended = ended ≡ Some (readings.Broken error)

-- some frames of the body came, whose bytes were added, and what may come of it now is what may follow them
abbrev pub GoesOn : Runs Piece → List ℕ → Runs Piece → List ℕ → Type 0
GoesOn source had rest has =
    (frames : List (Frame (List ℕ))) × (has ≡ had ++ joined_data frames)
    × ((xs : List Piece) (last : Option Piece) → rest xs last → source (map Ok frames ++ xs) last)

-- how the reading of the body may end, and what came then: whole is what came up to the body's end, each byte of it
abbrev pub EndsSo : Runs Piece → List ℕ → Reading → List ℕ → Type 0
EndsSo source had readings.Whole has =
    (frames : List (Frame (List ℕ))) × (has ≡ had ++ joined_data frames) × source (map Ok frames) None
EndsSo source had readings.TooLong has =
    (frames : List (Frame (List ℕ))) × source (map Ok frames) (Some (Err LengthLimit))
EndsSo source had (readings.Broken error) has =
    (frames : List (Frame (List ℕ))) × source (map Ok frames) (Some (Err (Body error)))
EndsSo source had readings.NoMemory has = Unit {0}

-- The same of a body of which this is kept: whatever came of it before, that and the frame's bytes came now.
abbrev pub TakesFrom : Option Piece → KeptBody → KeptBody → Option Reading → Type 0
TakesFrom piece old new ended =
    (keeps : Keeps) (had : List ℕ) → HasCome keeps old had
    → (has : List ℕ) × TakesIn (vec_capacity old.read) piece had has ended × HasCome keeps new has

abbrev pub GoesFrom : Runs Piece → KeptBody → Runs Piece → KeptBody → Type 0
GoesFrom source old rest new =
    (keeps : Keeps) (had : List ℕ) → HasCome keeps old had
    → (has : List ℕ) × GoesOn source had rest has × HasCome keeps new has

abbrev pub EndsFrom : Runs Piece → KeptBody → Reading → KeptBody → Type 0
EndsFrom source old reading new =
    (keeps : Keeps) (had : List ℕ) → HasCome keeps old had
    → (has : List ℕ) × EndsSo source had reading has × HasCome keeps new has

-- its head tells that a body is longer than the longest
abbrev pub TellsTooLong : {I : Type 0} → Incoming I → Type 0
TellsTooLong body = IsSomeAnd (size_left body.kind) (λ told. max_message < told)

-- what a request asks for beside its body, and whom
pub record QuestionValue (H : Type 0) : Type 0 where
  pub handler : H
  pub asked : AskedValue
  -- the key with which messages have to be sealed, if there is one
  pub key : Option (List ℕ)

abbrev pub question_value : {H : Type 0} → Question H → QuestionValue H
question_value question =
    record {
      handler = arc_value question.handler;
      asked = asked_value question.accepted.asked;
      key = key_in question.accepted.access;
    }

-- what is asked of a handler, if there is one
abbrev pub question_to : {H : Type 0} → Option H → Option (List ℕ) → AskedValue → Option (QuestionValue H)
question_to handler key asked = option_map (λ h. record { handler = h; asked = asked; key = key }) handler

-- a question, or none where there was no memory, and the fields of the head
pub record Asking (H : Type 0) : Type 0 where
  pub question : Option (QuestionValue H)
  pub fields : Entries FieldValue

-- what is kept of the body of a question; nobody is asked with anything
abbrev pub keeps_in : {H : Type 0} → Option (QuestionValue H) → Keeps
keeps_in None = Nothing
keeps_in (Some question) = keeps_of question.asked

module _ (answers : RequestValue → Row → List ℕ → ReplyValue → Type 0) (key : Option (List ℕ))
    (fields : Entries FieldValue) where
  -- The reply to what a request with these fields asks for of a service with this key, if it has one, with this body: it
  -- says why nothing is asked of the handler, or it is what the handler may answer to what its route keeps of the body.
  -- A message that isn't as it was sent is one of which nothing is asked.
  abbrev pub AnswersAsked : AskedValue → List ℕ → ReplyValue → Type 0
  AnswersAsked nowhere body given = IsReply (request_fault_reply faults.NotFound) given
  AnswersAsked (other_method methods) body given = IsReply (request_fault_reply faults.BadMethod) given
  AnswersAsked (known request row) body given =
      MatchBool (nat_lt max_message (length body)) (IsReply (request_fault_reply faults.TooLong) given)
      ((kept : List ℕ) × IsKept row.keeps body kept
      × MatchBool (is_altered row.kind key fields kept) (IsReply bad_digest given) (answers request row kept given))

module _ {H : Type 0} (answers : H → RequestValue → Row → List ℕ → ReplyValue → Type 0) where
  -- the reply to a question with this body; where there is none, that there was no memory
  abbrev pub IsAnswerTo : Asking H → List ℕ → ReplyValue → Type 0
  IsAnswerTo asking body given =
      MatchOption asking.question (given ≡ no_memory)
      (λ question.
      AnswersAsked (answers question.handler) question.key asking.fields question.asked body given)

  -- What a request comes to by how its body's reading ended. Of a body that is longer than the longest the reply is one
  -- to any such body; a broken one has none.
  abbrev pub ComesTo : Asking H → Reading → List ℕ → Result HttpReply Error → Type 0
  ComesTo asking readings.Whole body (Ok reply) = IsAnswerTo asking body (http_value reply)
  ComesTo asking readings.TooLong body (Ok reply) =
      (longer : List ℕ) → max_message < length longer → IsAnswerTo asking longer (http_value reply)
  ComesTo asking readings.NoMemory body (Ok reply) = http_value reply ≡ no_memory
  ComesTo asking (readings.Broken error) body given = given ≡ Err error
  ComesTo asking _ body (Err error) = ⊥

-- a response whose body is one piece, or none where it has no byte, as one of these bytes
abbrev pub as_bytes : Response (Full (List ℕ)) → Response (List ℕ)
as_bytes response = record { head = response.head; body = unwrap_or response.body.buf [] }

-- a reply to a request with these fields is given as a response with the labels of its status, if that is one and unless
-- memory was refused; an error as it is
abbrev pub Responds : Entries FieldValue → (ℕ → Labels) → Result HttpReply Error →
    Result (Response (Full (List ℕ))) Error → Type 0
Responds fields labels (Ok reply) (Ok response) =
    IsStatusCode reply.status → IsResponseTo fields (labels reply.status) (http_value reply) (as_bytes response)
Responds fields labels (Ok reply) (Err error) = kind_of error ≡ kinds.OutOfMemory
Responds fields labels (Err error) given = given ≡ Err error

-- what a reply is labelled as: by what was asked for, and as a text where nothing was
abbrev pub labels_by : {H : Type 0} → Option (QuestionValue H) → ℕ → Labels
labels_by None status = plain_labels
labels_by (Some question) status = labels_of question.asked status

-- a head that is refused is answered so, unless memory was refused
abbrev pub IsRefused : Entries FieldValue → Refusal → Result (Response (Full (List ℕ))) Error → Type 0
IsRefused fields refusal given =
    (reply : HttpReply) × IsReply (refusal_reply refusal) (http_value reply)
    × Responds fields (λ _. refusal_labels refusal) (Ok reply) given

module _ {H : Type 0} (answers : H → RequestValue → Row → List ℕ → ReplyValue → Type 0) where
  -- the request comes to that reply by how its body's reading ended, and it is what is given
  pub record IsAnswered (asking : Asking H) (reading : Reading) (body : List ℕ)
      (given : Result (Response (Full (List ℕ))) Error) : Type 0 where
    pub reply : Result HttpReply Error
    pub comes : ComesTo answers asking reading body reply
    pub responds : Responds asking.fields (labels_by asking.question) reply given

module _ {I H R : Type 0} where
  abbrev pub asking_of : Exchange I H R → Asking H
  asking_of e = record { question = option_map question_value e.question; fields = e.fields }

  -- what a request asks for by its method and its path, of a service with these routes
  abbrev pub asked_by : ConnectionService H R → Request (Incoming I) → AskedValue
  asked_by service req = asked_of service.set (request.head_of req).method (uri_path (request.head_of req).uri)

  -- why the head of a request is refused, if it is
  abbrev pub refusal_to : ConnectionService H R → Request (Incoming I) → Option Refusal
  refusal_to service req =
      refusal_of (key_in service.access) (key_need (asked_by service req)) service.port
      (authority_of (request.head_of req).uri) (request.head_of req).headers

  -- what shows that the head of a request is let in: it was given for this head, which the service doesn't refuse
  pub record IsAdmitted (service : ConnectionService H R) (req : Request (Incoming I)) (admitted : Admitted) :
      Type 0 where
    pub need : admitted.need ≡ key_need (asked_by service req)
    pub let_in : refusal_to service req ≡ None

  -- the exchange of a request: it asks the service's handler for what the request asks for, or nobody where the head or
  -- memory was refused; the body is the request's, up to the longest one, and nothing of it is read yet
  pub record IsExchangeOf (service : ConnectionService H R) (req : Request (Incoming I)) (e : Exchange I H R) :
      Type 0 where
    pub refusal : e.refusal ≡ refusal_to service req
    pub asks : ((e.refusal ≡ None) × ((asking_of e).question
        ≡ question_to (option_map arc_value service.handler) (key_in service.access) (asked_by service req)))
        ⊎ ((asking_of e).question ≡ None)
    pub admitted : IfSome e.question (λ question. IsAdmitted service req question.accepted.admitted)
    pub fields : e.fields ≡ (request.head_of req).headers
    pub told : IsTrue e.is_too_long ↔ TellsTooLong (request.body_of req)
    pub body : e.body ≡ record { remaining = max_message; inner = request.body_of req }
    pub kept : HasCome (keeps_in (asking_of e).question) e.kept []

  -- how the reading of a body ends of which these bytes came before: where its head tells that it is too long, nothing of
  -- it is read
  abbrev pub ReadsSo : Exchange I H R → List ℕ → Reading → List ℕ → Type 0
  ReadsSo e had reading has =
      (IsTrue e.is_too_long × (reading ≡ readings.TooLong))
      ⊎ (IsFalse e.is_too_long × EndsSo (pieces_of e.body) had reading has)

  module _ (answers : H → RequestValue → Row → List ℕ → ReplyValue → Type 0) where
    -- the reading of a body ends so of which these bytes came before, and what is given is by that, and by the whole body
    pub record GivesRead (e : Exchange I H R) (had : List ℕ) (given : Result (Response (Full (List ℕ))) Error) :
        Type 0 where
      pub reading : Reading
      pub body : List ℕ
      pub ends : ReadsSo e had reading body
      pub answered : IsAnswered answers (asking_of e) reading body given

    -- The same whatever came before; where the head was refused, nobody is asked and nothing of the body is read: what is
    -- given says why.
    abbrev pub Gives : Exchange I H R → Result (Response (Full (List ℕ))) Error → Type 0
    Gives e given =
        MatchOption e.refusal
        ((had : List ℕ) → HasCome (keeps_in (asking_of e).question) e.kept had → GivesRead e had given)
        (λ refusal. IsRefused e.fields refusal given)
