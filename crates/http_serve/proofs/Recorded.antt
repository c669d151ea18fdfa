-- What a call at a node whose part is kept is answered.
use Rattle.std.proofs.Common.{◌≡◌, ℕ, ◌+◌, Bool, List, Option, Some, None, Result, Ok, Err, IfOk, IfErr, inl, inr, refl, sym, ap, ◌∙◌, subst}
use Rattle.std.specs.Prelude.{◌⊎◌, OnOk}
use Rattle.node_calls.specs.declared.ask.Ask.{Ask}
use Rattle.node_calls.specs.declared.fault.NodeFault.{NodeFault}
use Rattle.node_calls.specs.declared.reply.Reply.{Reply}
use Rattle.node_calls.specs.Told.{AskTold, ask_told}
use Rattle.node_calls.specs.Asks.{ask_value, ask_value_first, reply_value}
use Rattle.node_steps.specs.declared.config.Config.{Config}
use Rattle.node_registry.specs.Receipts.{IsAnswered}
use Rattle.node_registry.specs.Receipts as registry
use Rattle.node_registry.specs.Seats.{SeatState}
use Rattle.part_keeper.specs.Kept.{IsUnanswered}
use Rattle.part_keeper.specs.Pieces.{Continues, HasLine}
use Rattle.part_keeper.specs.declared.fault.CallFault.{CallFault}
use Rattle.part_keeper.specs.declared.fault.CallFault.TheVariants as faults
use Rattle.http_routes.specs.declared.http_reply.HttpReply.{HttpReply}
use Rattle.http_routes.specs.Replies.{ReplyValue, IsReply, http_value, no_memory}
use Rattle.http_routes.specs.Replies.{acceptance_value, refusal_value}
use Rattle.http_routes.specs.Requests.{WantedValue, call}
use Rattle.http_serve.specs.Recorded.{IsNotMade, IsNotRecorded, IsServedRecording, IsServedWriting, IsSpreadWriting, IsUnrecorded, TellsFault}
use Rattle.http_serve.specs.Spreads.{IsSpreadFrom, IsSpreadServed, spread_of}

-- a fault that says that nothing is made any more is no other
pub failed_otherwise : faults.RecordingFailed ≡ faults.NotRecorded → ⊥
failed_otherwise is = let no : ⊥ = cc in no

-- a refusal says that it wasn't made
pub was_recorded : (fault : NodeFault) → faults.Refused fault ≡ faults.NotRecorded → ⊥
was_recorded fault is = let no : ⊥ = cc in no

is_made : (fault : NodeFault) → faults.Refused fault ≡ faults.RecordingFailed → ⊥
is_made fault is = let no : ⊥ = cc in no

module _ {W : Type 0} (contents : W → Option (List ℕ)) (old new : W) (was now : ℕ) (had has : SeatState)
    (config : Config) (seed : List ℕ) (keeps : Bool) (seats : ℕ) where
  -- one that was accepted and written is answered so
  pub written_so : (ask : Ask) (given : ReplyValue) (reply : Reply) → IsAnswered config seed ask reply →
      HasLine contents config seed keeps seats has old new was now ask reply
      → ((n : ℕ) → given ≡ acceptance_value (reply_value n reply)) → has.calls ≡ had.calls + 1
      → IsServedWriting contents old new was now had has config seed keeps seats (ask_told ask) given
  written_so ask given reply (r, node, of, answer, accepted) line told counted = inl (
    record {
      receipt = r;
      accepted = accepted;
      asked = (node, ap (λ (o : Ask). ask_value config.nodes o r.entry.reply) of);
      told = told config.nodes ∙ ap (λ (o : Reply). acceptance_value (reply_value config.nodes o)) (sym answer);
    },
    record { made = ask; reply = reply; asked = refl; line = line; told = told config.nodes },
    counted,
  )

  -- and one that was refused so
  pub refused_so : (ask : Ask) (given : ReplyValue) (fault : NodeFault) →
      registry.IsRefused config seed (ask_value_first config.nodes ask) fault → IsReply (refusal_value fault) given
      → has ≡ had → IsServedWriting contents old new was now had has config seed keeps seats (ask_told ask) given
  refused_so ask given fault refused why same =
      inr (inr (inl (record { fault = fault; refused = refused; told = why }), same))

  -- one that isn't made
  pub unmade_so : (ask : AskTold) (given : ReplyValue) → IsNotMade given → has ≡ had →
      IsServedWriting contents old new was now had has config seed keeps seats ask given
  unmade_so ask given is same = inr (inr (inr (inl is), same))

  -- by what came of it
  pub written_by : (S : Type 0) (ask : Ask) (given : ReplyValue) (made : Result Reply CallFault)
      → IfOk made (IsAnswered config seed ask)
      → IfOk made (HasLine contents config seed keeps seats has old new was now ask)
      → OnOk made (has.calls ≡ had.calls + 1)
      → IfErr made (IsUnanswered config seed ask)
      → IfErr made (λ fault. (fault ≡ faults.NotRecorded → ⊥) → (has ≡ had) × S)
      → IfOk made (λ reply. (n : ℕ) → given ≡ acceptance_value (reply_value n reply))
      → IfErr made (λ fault. TellsFault fault given)
      → IsServedWriting contents old new was now had has config seed keeps seats (ask_told ask) given
  written_by S ask given (Ok reply) answered line counted unanswered unmade told why =
      written_so ask given reply answered line told counted
  written_by S ask given (Err (faults.Refused fault)) answered line counted unanswered unmade told why =
      refused_so ask given fault unanswered why (unmade (was_recorded fault)).0
  written_by S ask given (Err faults.NotRecorded) answered line counted unanswered unmade told why = inr (inl why)
  written_by S ask given (Err faults.RecordingFailed) answered line counted unanswered unmade told why =
      unmade_so (ask_told ask) given why (unmade failed_otherwise).0

  -- several calls, by what came of them
  pub spread_by : (S : Type 0) (wanted : WantedValue) (made : Result HttpReply CallFault) (given : HttpReply)
      → IfOk made (λ reply. IsSpreadFrom config seed keeps seats had has wanted (http_value reply))
      → OnOk made (Continues contents config seed keeps seats has old new was now)
      → IfErr made (λ fault. (fault ≡ faults.NotRecorded) ⊎ (fault ≡ faults.RecordingFailed))
      → IfErr made (λ fault. (fault ≡ faults.NotRecorded → ⊥) → (has ≡ had) × S)
      → IfOk made (λ reply. given ≡ reply)
      → IfErr made (λ fault. TellsFault fault (http_value given))
      → IsSpreadWriting contents old new was now had has config seed keeps seats wanted (http_value given)
  spread_by S wanted (Ok reply) given came written only unmade told why = inl (
    subst (λ r. IsSpreadFrom config seed keeps seats had has wanted (http_value r)) (sym told) came,
    written,
  )
  spread_by S wanted (Err (faults.Refused fault)) given came written (inl is) unmade told why =
      absurd (was_recorded fault is)
  spread_by S wanted (Err (faults.Refused fault)) given came written (inr is) unmade told why =
      absurd (is_made fault is)
  spread_by S wanted (Err faults.NotRecorded) given came written only unmade told why = inr (inl why)
  spread_by S wanted (Err faults.RecordingFailed) given came written only unmade told why =
      inr (inr (why, (unmade failed_otherwise).0))

  -- whatever was written
  pub as_recording : (ask : AskTold) (given : ReplyValue)
      → IsServedWriting contents old new was now had has config seed keeps seats ask given
      → IsServedRecording config seed keeps seats (call ask) given
  as_recording ask given (inl (made, written, counted)) = inl (inl (inl made))
  as_recording ask given (inr (inl unrecorded)) = inr (inl unrecorded)
  as_recording ask given (inr (inr (inl refused, same))) = inl (inl (inr refused))
  as_recording ask given (inr (inr (inr (inl unmade), same))) = inr (inr unmade)
  as_recording ask given (inr (inr (inr (inr none), same))) = inl (inr none)

-- whatever was written of a spread
module _ (written : Type 0) (config : Config) (seed : List ℕ) (keeps : Bool) (seats : ℕ) (had has : SeatState) where
  of_spread : (wanted : WantedValue) (given : ReplyValue)
      → (IsSpreadFrom config seed keeps seats had has wanted given × written)
      ⊎ (IsNotRecorded given ⊎ (IsNotMade given × (has ≡ had)))
      → (IsSpreadServed config seed keeps seats wanted given ⊎ (given ≡ no_memory)) ⊎ IsUnrecorded given
  of_spread wanted given (inl (came, kept)) = inl (inl (had, has, came))
  of_spread wanted given (inr (inl unrecorded)) = inr (inl unrecorded)
  of_spread wanted given (inr (inr (unmade, same))) = inr (inr unmade)

  pub as_spread : (name : List ℕ) (text : Option (List ℕ)) (given : ReplyValue)
      → (IsSpreadFrom config seed keeps seats had has (spread_of name text) given × written)
      ⊎ (IsNotRecorded given ⊎ (IsNotMade given × (has ≡ had)))
      → IsServedRecording config seed keeps seats (spread_of name text) given
  as_spread name (Some text) given h = of_spread (spread_of name (Some text)) given h
  as_spread name None given h = of_spread (spread_of name None) given h
