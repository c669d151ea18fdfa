-- What a call of a node comes to, by its outcome.
use Rattle.std.proofs.Common.{◌≡◌, ℕ, ◌+◌, Bool, List, Result, Ok, Err, inl, inr, ◌∙◌, ap, sym, subst, IfOk, IfErr, OnErr}
use Rattle.std.specs.Prelude.{◌⊎◌, OnOk}
use Rattle.node_calls.specs.declared.ask.Ask.{Ask}
use Rattle.node_steps.specs.declared.config.Config.{Config}
use Rattle.node_calls.specs.declared.fault.NodeFault.{NodeFault}
use Rattle.node_calls.specs.declared.reply.Reply.{Reply}
use Rattle.node_calls.specs.Told.{ask_told}
use Rattle.node_calls.specs.Asks.{ask_value, ask_value_first, reply_value}
use Rattle.node_registry.specs.Receipts.{IsAnswered}
use Rattle.node_registry.specs.Receipts as registry
use Rattle.node_registry.specs.Seats.{HasSameCalls, IsCalled, SeatState}
use Rattle.node_registry.proofs.SameCalls.{batch_as}
use Rattle.http_routes.specs.Replies.{ReplyValue, IsReply, no_memory}
use Rattle.http_routes.specs.Replies.{acceptance_value, refusal_value}
use Rattle.http_routes.specs.Requests.{WantedValue, call}
use Rattle.http_routes.specs.Requests as wants
use Rattle.http_serve.specs.Served.{IsMade, IsRefused, IsServed, IsServedFrom}

module _ (config : Config) (seed : List ℕ) (keeps : Bool) (seats : ℕ) where
  -- an accepted call is counted and answered so, and a refused one so
  pub called_by : (had has : SeatState) (ask : Ask) (given : ReplyValue) (outcome : Result Reply NodeFault)
      → IfOk outcome (IsAnswered config seed ask)
      → IfErr outcome (registry.IsRefused config seed (ask_value_first config.nodes ask))
      → OnOk outcome (IsCalled had has)
      → OnErr outcome (has ≡ had)
      → IfOk outcome (λ reply. (n : ℕ) → given ≡ acceptance_value (reply_value n reply))
      → IfErr outcome (λ f. IsReply (refusal_value f) given)
      → IsServedFrom config seed keeps seats had has (call (ask_told ask)) given
  called_by had has ask given (Ok reply) (r, node, of, answer, accepted) refused more same told why =
      inl (
        record {
          receipt = r;
          accepted = accepted;
          asked = (node, ap (λ (o : Ask). ask_value config.nodes o r.entry.reply) of);
          told = told config.nodes ∙ ap (λ (o : Reply). acceptance_value (reply_value config.nodes o)) (sym answer);
        },
        ap (λ (s : SeatState). s.calls) more.2,
      )
  called_by had has ask given (Err fault) answered refused more same told why =
      inr (inl (record { fault = fault; refused = refused; told = why }), ap (λ (s : SeatState). s.calls) same)

  -- whatever the seat counts
  pub served : (had has : SeatState) (wanted : WantedValue) (given : ReplyValue) →
      IsServedFrom config seed keeps seats had has wanted given → IsServed config seed keeps seats wanted given
  served had has (wants.call ask) given (inl (made, more)) = inl (inl made)
  served had has (wants.call ask) given (inr (inl refused, same)) = inl (inr refused)
  served had has (wants.call ask) given (inr (inr none, same)) = inr none
  served had has wants.list given (is, same) = is
  served had has wants.report given (is, same) = is
  served had has wants.status given (is, same) = is
  served had has (wants.sets_spread name text) given came = inl (had, has, came)
  served had has (wants.spreads name) given came = inl (had, has, came)
  served had has (wants.answered reply) given (is, same) = is

  -- and after it handed calls out
  pub served_still : (had has later : SeatState) (wanted : WantedValue) (given : ReplyValue) → HasSameCalls has later
      → IsServedFrom config seed keeps seats had has wanted given → IsServedFrom config seed keeps seats had later wanted given
  served_still had has later (wants.call ask) given same h =
      subst (λ n. (IsMade config seed ask given × (n ≡ had.calls + 1))
      ⊎ ((IsRefused config seed ask given ⊎ (given ≡ no_memory)) × (n ≡ had.calls))) (sym same.0) h
  served_still had has later wants.list given same (is, counted) = (is, same.0 ∙ counted)
  served_still had has later wants.report given same (is, counted) = (is, same.0 ∙ counted)
  served_still had has later wants.status given same (is, counted) = (is, same.0 ∙ counted)
  served_still had has later (wants.sets_spread name text) given same came =
      batch_as config seed keeps seats had has later _ same came
  served_still had has later (wants.spreads name) given same came =
      batch_as config seed keeps seats had has later _ same came
  served_still had has later (wants.answered reply) given same (is, counted) = (is, same.0 ∙ counted)
