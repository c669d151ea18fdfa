-- What a call comes to, by its outcome.
use Rattle.std.proofs.Common.{◌≡◌, ℕ, [], Bool, true, false, Some, None, Result, Ok, Err, inl, inr, IfOk, IfErr, OnErr, refl, subst, sym, ◌∙◌, ap, arith}
use Rattle.std.specs.Prelude.{IsErrOf}
use Rattle.node_calls.specs.declared.fault.NodeFault.{NodeFault}
use Rattle.node_calls.specs.declared.fault.NodeFault.TheVariants as faults
use Rattle.node_calls.specs.declared.reply.Reply.{Reply}
use Rattle.node_calls.specs.Told.{AskTold, reply_told}
use Rattle.node_calls.specs.Asks.{asked_first, asked_from, reply_value}
use Rattle.node_core.specs.Traces.{Kept, Accepts, IsRefusalOf}
use Rattle.http_routes.specs.Replies.{ReplyValue, IsReply}
use Rattle.http_routes.specs.Replies.{acceptance_value, refusal_value}
use Rattle.http_routes.specs.Requests.{WantedValue, IsWanted, call}
use Rattle.http_routes.specs.Answers.{Comes}
use Rattle.http_routes.specs.Memory.{AskNeedsMemory, IsOutOfMemory, NeedsMemory, holds_fault}

-- a call that came to this is answered so
pub comes_by : (k new : Kept) (ask : AskTold) (given : ReplyValue) (outcome : Result Reply NodeFault)
    → IfOk outcome (λ r. Accepts k new (asked_from k.config.nodes ask (reply_told r)) [] (reply_value k.config.nodes r))
    → IfErr outcome (IsRefusalOf k (asked_first k.config.nodes ask) [])
    → OnErr outcome (new ≡ k)
    → IfOk outcome (λ r. (n : ℕ) → given ≡ acceptance_value (reply_value n r))
    → IfErr outcome (λ f. IsReply (refusal_value f) given)
    → Comes k (call ask) new given
comes_by k new ask given (Ok r) made refused kept told why =
    inl (record { reply = reply_told r; accepted = made; told = told k.config.nodes })
comes_by k new ask given (Err f) made refused kept told why =
    inr (record { fault = f; refused = refused; kept = kept; told = why })

-- no rejection but the one for want of memory carries that fault
is_told_so : (f : NodeFault) → IsOutOfMemory (refusal_value f) → f ≡ faults.OutOfMemory
is_told_so f (inl e) = absurd (let no : Some f ≡ None = ap (λ (r : ReplyValue). r.fault) e in cc)
is_told_so f (inr e) =
    let same : Some f ≡ Some faults.OutOfMemory = ap (λ (r : ReplyValue). r.fault) e in cc

-- a reply that says that memory was refused
pub needed_by : (k : Kept) (ask : AskTold) (given : ReplyValue) (outcome : Result Reply NodeFault)
    → IfErr outcome (IsRefusalOf k (asked_first k.config.nodes ask) [])
    → (IsErrOf outcome faults.OutOfMemory → AskNeedsMemory k ask)
    → IfOk outcome (λ r. (n : ℕ) → given ≡ acceptance_value (reply_value n r))
    → IfErr outcome (λ f. holds_fault f ≡ false → given ≡ refusal_value f)
    → IsOutOfMemory given → NeedsMemory k (call ask)
needed_by k ask given (Ok r) refused needs told exact says = absurd (at_once says)
  where
    at_once : IsOutOfMemory given → ⊥
    at_once (inl e) = let s : 200 ≡ 503 = ap (λ (g : ReplyValue). g.status) (sym (told 0) ∙ e) in omega (arith, s)
    at_once (inr e) = let s : 200 ≡ 503 = ap (λ (g : ReplyValue). g.status) (sym (told 0) ∙ e) in omega (arith, s)
needed_by k ask given (Err f) refused needs told exact says = by_kind (holds_fault f) refl
  where
    by_kind : (b : Bool) → holds_fault f ≡ b → NeedsMemory k (call ask)
    by_kind false e = inl (needs (ap Err (is_told_so f (subst IsOutOfMemory (exact e) says))))
    by_kind true e = by_refusal refused
      where
        by_refusal : IsRefusalOf k (asked_first k.config.nodes ask) [] f → NeedsMemory k (call ask)
        by_refusal (inl is) = inl (needs (ap Err is))
        by_refusal (inr is) = inr (f, is, e)

-- what holds of a call holds of what is wanted, where this is the call
pub wanted_call : (ask : AskTold) (wanted : WantedValue) (P : WantedValue → Type 0) → IsWanted wanted (call ask) →
    P (call ask) → P wanted
wanted_call ask wanted P (inl is) holds = subst P is holds
wanted_call ask wanted P (inr is) holds = absurd (let no : ⊥ = cc in no)
