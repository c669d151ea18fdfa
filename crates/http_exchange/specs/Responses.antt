-- What a reply is as a response.
use Rattle.std.specs.Prelude.{◌≡◌, ◌⊎◌, List, [], length, Option, Some, None, ℕ, MatchBool, codes}
use Rattle.http.specs.Response.{head_of, body_of}
use Rattle.http.specs.declared.response.Response.{Response}
use Rattle.http_exchange.specs.Labels.{label_fields, with_tag}
use Rattle.http_exchange.specs.Tags.{is_had, tag_of}
use Rattle.http_exchange.specs.declared.labels.Labels.{Labels}
use Rattle.http_header.specs.FieldValue.{FieldValue}
use Rattle.http_header.specs.HeaderMap.{Entries, insert}
use Rattle.http_routes.specs.Replies.{ReplyValue}

-- the response has the reply's status, its body, the fields that its labels say, and its tag, if it has one; where
-- memory was refused, one without a body may have none
pub record IsWhole (tag : Option FieldValue) (labels : Labels) (reply : ReplyValue) (response : Response (List ℕ)) :
    Type 0 where
  pub status : (head_of response).status ≡ reply.status
  pub body : body_of response ≡ reply.body
  pub headers : ((head_of response).headers ≡ with_tag tag (label_fields labels))
      ⊎ ((length reply.body ≡ 0) × ((head_of response).headers ≡ []))

-- the response says no more than that the body still has this tag
pub record IsUnchanged (tag : FieldValue) (response : Response (List ℕ)) : Type 0 where
  pub status : (head_of response).status ≡ 304
  pub body : body_of response ≡ []
  pub headers : (head_of response).headers ≡ insert [] (codes "etag") tag

abbrev pub IsResponseBy : Option FieldValue → Entries FieldValue → Labels → ReplyValue → Response (List ℕ) →
    Type 0
IsResponseBy None fields labels reply response = IsWhole None labels reply response
IsResponseBy (Some tag) fields labels reply response =
    MatchBool (is_had tag fields) (IsUnchanged tag response) (IsWhole (Some tag) labels reply response)

-- The response to a request with these fields is the whole reply; where it has a tag, and the request says that its
-- client has the body with that, no more than this.
abbrev pub IsResponseTo : Entries FieldValue → Labels → ReplyValue → Response (List ℕ) → Type 0
IsResponseTo fields labels reply response = IsResponseBy (tag_of labels.tagging reply.body) fields labels reply response
