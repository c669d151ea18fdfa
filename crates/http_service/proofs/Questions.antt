-- What a request asks of a handler.
use Rattle.std.proofs.Common.{◌≡◌, ◌∙◌, ℕ, Bool, true, false, List, length, Option, None, Err, Ok, ap, subst, inl, inr, ◌⊎◌}
use Rattle.std.specs.Prelude.{MatchBool, nat_lt, option_map}
use Rattle.http_exchange.specs.Accepted.{IsAskedBy}
use Rattle.http_exchange.specs.Seals.{is_altered}
use Rattle.http_exchange.specs.declared.accepted.Asking.{Asking}
use Rattle.http_exchange.specs.declared.heads.Refusal.{Refusal}
use Rattle.http_header.specs.FieldValue.{FieldValue}
use Rattle.http_header.specs.HeaderMap.{Entries}
use Rattle.http_routes.specs.Asked.{AskedValue, RequestValue, nowhere, other_method, known, request_value}
use Rattle.http_routes.specs.Replies.{ReplyValue, http_value}
use Rattle.http_routes.specs.declared.http_reply.HttpReply.{HttpReply}
use Rattle.http_routes.specs.declared.table.Row.{Row}
use Rattle.http_service.specs.Exchanges.{question_to, question_value, AnswersAsked}
use Rattle.http_service.specs.declared.question.Question.{Question}
use Rattle.message_format.specs.Spelling.{max_message}

-- what is asked of a handler is what the request asks for
pub asked_so : {H : Type 0} (refusal : Option Refusal) (question : Option (Question H)) (handler : Option H)
    (key : Option (List ℕ)) (asked asks : AskedValue) → asked ≡ asks
    → ((refusal ≡ None) × (option_map question_value question ≡ question_to handler key asked)) ⊎ (question ≡ None)
    → ((refusal ≡ None) × (option_map question_value question ≡ question_to handler key asks))
    ⊎ (option_map question_value question ≡ None)
asked_so refusal question handler key asked asks same (inl (let_in, is)) =
    inl (let_in, is ∙ ap (λ (a : AskedValue). question_to handler key a) same)
asked_so {H} refusal question handler key asked asks same (inr none) =
    inr (ap (λ (o : Option (Question H)). option_map question_value o) none)

-- whichever of two holds, what follows from it does
either : {A B C D : Type 0} (is : Bool) → (A → C) → (B → D) → MatchBool is A B → MatchBool is C D
either true f g a = f a
either false f g b = g b

module _ (answers : RequestValue → Row → List ℕ → ReplyValue → Type 0) (key : Option (List ℕ))
    (fields : Entries FieldValue) where
  -- what the handler may answer to what is asked of it is an answer to the request
  pub answered_by : (asked : AskedValue) (came : List ℕ) (asking : Asking) (given : ReplyValue)
      → IsAskedBy key fields asked came (Ok asking)
      → answers (request_value asking.request.now) asking.row asking.body.items given
      → AnswersAsked answers key fields asked came given
  answered_by nowhere came asking given none answer = absurd none
  answered_by (other_method methods) came asking given none answer = absurd none
  answered_by (known request row) came asking given is answer =
      either (nat_lt max_message (length came)) (λ none. absurd none)
      (λ k. (
        k.0,
        k.1,
        either (is_altered row.kind key fields k.0) (λ none. absurd none)
            (λ asks. subst (λ (it : List ℕ). answers request row it given) asks.2
            (subst (λ (it : Row). answers request it asking.body.items given) asks.1
            (subst (λ (it : RequestValue). answers it asking.row asking.body.items given) asks.0 answer))) k.2,
      )) is

  -- the reply that says why nothing is asked is an answer to the request
  pub rejected_by : (asked : AskedValue) (came : List ℕ) (reply : HttpReply)
      → IsAskedBy key fields asked came (Err reply) → AnswersAsked answers key fields asked came (http_value reply)
  rejected_by nowhere came reply is = is
  rejected_by (other_method methods) came reply is = is
  rejected_by (known request row) came reply is =
      either (nat_lt max_message (length came)) (λ says. says)
      (λ k. (k.0, k.1, either (is_altered row.kind key fields k.0) (λ says. says) (λ none. absurd none) k.2)) is
