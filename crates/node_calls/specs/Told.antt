-- What an entry of a trace tells, to the byte, without where it lies in memory.
use Rattle.std.specs.Prelude.{ℕ, Bool, true, false, List, [], string_bytes}
use Rattle.actions.specs.Value.{TaskValue, task_value}
use Rattle.stamp_register.specs.declared.key.Stamp.{Stamp}
use Rattle.node_calls.specs.declared.ask.Ask.{Ask}
use Rattle.node_calls.specs.declared.ask.Ask.TheVariants as asks
use Rattle.node_calls.specs.declared.ask_ref.AskRef.{AskRef}
use Rattle.node_calls.specs.declared.ask_ref.AskRef.TheVariants as refs
use Rattle.node_calls.specs.declared.reply.PassReply.{PassReply}
use Rattle.node_calls.specs.declared.reply.PassReply.TheVariants as replied
use Rattle.node_calls.specs.declared.reply.Reply.{Reply}
use Rattle.node_calls.specs.declared.reply.Reply.TheVariants as replies
use Rattle.node_calls.specs.declared.reply_ref.PassReplyRef.{PassReplyRef}
use Rattle.node_calls.specs.declared.reply_ref.PassReplyRef.TheVariants as pass_refs
use Rattle.node_calls.specs.declared.reply_ref.ReplyRef.{ReplyRef}
use Rattle.node_calls.specs.declared.reply_ref.ReplyRef.TheVariants as reply_refs
use Rattle.node_calls.specs.declared.trace.Entry.{Entry}

-- what was asked
pub data AskTold : Type 0 where
  sets : (name text : List ℕ) → AskTold
  removes : (name : List ℕ) → AskTold
  loads : (text : List ℕ) → AskTold
  passes : (name : List ℕ) → AskTold
  shifts : (name : List ℕ) (term to amount : ℕ) → AskTold
  grants : (name : List ℕ) (term amount : ℕ) → AskTold
  emits : (to : ℕ) → AskTold
  delivers : (bytes : List ℕ) → AskTold

abbrev pub ask_told : Ask → AskTold
ask_told (asks.Set name text) = sets (string_bytes name) (string_bytes text)
ask_told (asks.Remove name) = removes (string_bytes name)
ask_told (asks.Load text) = loads (string_bytes text)
ask_told (asks.Pass name) = passes (string_bytes name)
ask_told (asks.Shift name term to amount) = shifts (string_bytes name) term to amount
ask_told (asks.Grant name term amount) = grants (string_bytes name) term amount
ask_told (asks.Emit to) = emits to
ask_told (asks.Deliver bytes) = delivers bytes.items

-- the same of an ask that lies elsewhere
abbrev pub ask_ref_told : AskRef → AskTold
ask_ref_told (refs.Set name text) = sets name.now text.now
ask_ref_told (refs.Remove name) = removes name.now
ask_ref_told (refs.Load text) = loads text.now
ask_ref_told (refs.Pass name) = passes name.now
ask_ref_told (refs.Shift name term to amount) = shifts name.now term to amount
ask_ref_told (refs.Grant name term amount) = grants name.now term amount
ask_ref_told (refs.Emit to) = emits to
ask_ref_told (refs.Deliver bytes) = delivers bytes.now

-- the random draws of a call are those of a pass
abbrev pub is_pass : AskTold → Bool
is_pass (passes name) = true
is_pass _ = false

abbrev pub is_delivery : AskTold → Bool
is_delivery (delivers bytes) = true
is_delivery _ = false

-- the bytes of a delivery
abbrev pub bytes_of : AskTold → List ℕ
bytes_of (delivers bytes) = bytes
bytes_of _ = []

-- what a pass came to: the point isn't set, no term was triggered, or this one was
pub data Passed : Type 0 where
  Unset : Passed
  NoTerm : (stamp : Stamp) → Passed
  Act : (stamp : Stamp) (term : ℕ) (task : TaskValue) → Passed

abbrev pub passed : PassReply → Passed
passed replied.Unset = Unset
passed (replied.NoTerm stamp) = NoTerm stamp
passed (replied.Act term stamp task) = Act stamp term (task_value task)

-- the same of a reply whose task lies elsewhere
abbrev pub passed_ref : PassReplyRef → Passed
passed_ref pass_refs.Unset = Unset
passed_ref (pass_refs.NoTerm stamp) = NoTerm stamp
passed_ref (pass_refs.Act term stamp task) = Act stamp term (task_value task.now)

-- what was answered
pub data ReplyTold : Type 0 where
  was_set : (stamp : Stamp) → ReplyTold
  was_removed : (stamp : Stamp) → ReplyTold
  was_loaded : (entries : ℕ) → ReplyTold
  was_passed : (outcome : Passed) → ReplyTold
  was_shifted : (total : ℕ) → ReplyTold
  was_granted : (total : ℕ) → ReplyTold
  was_emitted : (bytes : List ℕ) → ReplyTold
  was_delivered : (changed : Bool) → ReplyTold

abbrev pub reply_told : Reply → ReplyTold
reply_told (replies.Set stamp) = was_set stamp
reply_told (replies.Remove stamp) = was_removed stamp
reply_told (replies.Load entries) = was_loaded entries
reply_told (replies.Pass reply) = was_passed (passed reply)
reply_told (replies.Shift total) = was_shifted total
reply_told (replies.Grant total) = was_granted total
reply_told (replies.Emit bytes) = was_emitted bytes.items
reply_told (replies.Deliver changed) = was_delivered changed

-- the same of a reply that lies elsewhere
abbrev pub reply_ref_told : ReplyRef → ReplyTold
reply_ref_told (reply_refs.Set stamp) = was_set stamp
reply_ref_told (reply_refs.Remove stamp) = was_removed stamp
reply_ref_told (reply_refs.Load entries) = was_loaded entries
reply_ref_told (reply_refs.Pass reply) = was_passed (passed_ref reply)
reply_ref_told (reply_refs.Shift total) = was_shifted total
reply_ref_told (reply_refs.Grant total) = was_granted total
reply_ref_told (reply_refs.Emit bytes) = was_emitted bytes.now
reply_ref_told (reply_refs.Deliver changed) = was_delivered changed

pub record Told : Type 0 where
  pub ask : AskTold
  pub words : List ℕ
  pub reply : ReplyTold

abbrev pub told : Entry → Told
told e = record { ask = ask_told e.ask; words = e.words.items; reply = reply_told e.reply }
