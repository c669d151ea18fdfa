-- What a request comes to at a node: the reply, and the node after it.
use Rattle.std.specs.Prelude.{◌≡◌, ◌⊎◌, ℕ, List, [], length, decimal, None}
use Rattle.stamp_register.specs.Keys.{stamp_text}
use Rattle.stamp_register.specs.declared.key.Stamp.{Stamp}
use Rattle.node_calls.specs.declared.fault.NodeFault.{NodeFault}
use Rattle.node_calls.specs.Told.{AskTold, ReplyTold}
use Rattle.node_calls.specs.Asks.{answered_from, asked_first, asked_from}
use Rattle.node_core.specs.Traces.{Kept, Accepts, IsRefusalOf, state_known}
use Rattle.node_steps.specs.Texts.{list_text}
use Rattle.node_sharing.specs.Made.{AreMade}
use Rattle.node_sharing.specs.Spread.{IsNotSetSpread, IsNotSpread, IsSetSpread, rights_kept, spread_due}
use Rattle.report_text.specs.Json.{report_json_text}
use Rattle.report_text.specs.Status.{status_json_text}
use Rattle.report_text.specs.declared.node_json.NodeHead.{NodeHead}
use Rattle.http_routes.specs.Replies.{ReplyValue, IsReply, no_memory, text_reply}
use Rattle.http_routes.specs.Replies.{acceptance_value, refusal_value}
use Rattle.http_routes.specs.Requests.{WantedValue}
use Rattle.http_routes.specs.Requests as wants

-- an accepted call: the node made the step of this reply, and the reply to the request is that, always
pub record IsMade (k new : Kept) (ask : AskTold) (given : ReplyValue) : Type 0 where
  pub reply : ReplyTold
  pub accepted : Accepts k new (asked_from k.config.nodes ask reply) [] (answered_from k.config.nodes reply)
  pub told : given ≡ acceptance_value (answered_from k.config.nodes reply)

-- a refused one: nothing changed, and the reply is the refusal
pub record IsRefused (k new : Kept) (ask : AskTold) (given : ReplyValue) : Type 0 where
  pub fault : NodeFault
  pub refused : IsRefusalOf k (asked_first k.config.nodes ask) [] fault
  pub kept : new ≡ k
  pub told : IsReply (refusal_value fault) given

-- the point is set and the rights are spread, and the reply is the stamp, always
pub record IsSetReplied (k : Kept) (name text : List ℕ) (new : Kept) (given : ReplyValue) : Type 0 where
  pub stamp : Stamp
  pub made : IsSetSpread k name text stamp new
  pub told : given ≡ text_reply 200 (stamp_text stamp)

-- the rights are spread, and the reply is how many the node keeps, always
pub record IsSpreadReplied (k : Kept) (name : List ℕ) (new : Kept) (given : ReplyValue) : Type 0 where
  pub made : AreMade k (spread_due k name) new
  pub told : given ≡ text_reply 200 (decimal (rights_kept new name))

-- it isn't made so, and the reply is the refusal
pub record IsRefusedSo (refused : NodeFault → Type 0) (given : ReplyValue) : Type 0 where
  pub fault : NodeFault
  pub why : refused fault
  pub told : IsReply (refusal_value fault) given

-- what a node is, and how many calls it accepted
abbrev pub head_of : Kept → NodeHead
head_of k =
    record {
      number = k.config.node;
      nodes = k.config.nodes;
      calls = length k.trace;
      cap = k.config.trace_cap;
    }

-- what is wanted comes to this. For a spread memory may be refused before anything is done
abbrev pub Comes : Kept → WantedValue → Kept → ReplyValue → Type 0
Comes k (wants.call ask) new given = IsMade k new ask given ⊎ IsRefused k new ask given
Comes k wants.list new given =
    (new ≡ k) × IsReply (text_reply 200 (list_text (state_known k))) given
Comes k wants.report new given =
    (new ≡ k) × IsReply (text_reply 200 (report_json_text (state_known k) k.config.nodes)) given
Comes k wants.status new given =
    (new ≡ k) × IsReply (text_reply 200 (status_json_text (head_of k) (state_known k) None)) given
Comes k (wants.sets_spread name text) new given =
    (IsSetReplied k name text new given ⊎ IsRefusedSo (IsNotSetSpread k name text new) given)
    ⊎ ((new ≡ k) × (given ≡ no_memory))
Comes k (wants.spreads name) new given =
    (IsSpreadReplied k name new given ⊎ IsRefusedSo (IsNotSpread k name new) given)
    ⊎ ((new ≡ k) × (given ≡ no_memory))
Comes k (wants.answered reply) new given = (new ≡ k) × IsReply reply given

-- the same; or memory was refused before anything was asked
abbrev pub Answers : Kept → WantedValue → Kept → ReplyValue → Type 0
Answers k wanted new given = Comes k wanted new given ⊎ ((new ≡ k) × (given ≡ no_memory))
