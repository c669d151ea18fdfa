-- What holds of all that the code's values tell: their numbers fit their types.
use Rattle.std.specs.Prelude.{ℕ, ◌<◌, ◌^◌, List, All, IfSome}
use Rattle.actions.specs.Value.{TaskValue, sleep, delay}
use Rattle.hex.specs.Hex.{IsBytes}
use Rattle.stamp_register.specs.declared.key.Stamp.{Stamp}
use Rattle.node_calls.specs.Told.{AskTold, sets, removes, loads, passes, shifts, grants, emits, delivers, ReplyTold, was_set, was_removed, was_loaded, was_passed, was_shifted, was_granted, was_emitted, was_delivered, Told, Passed, Unset, NoTerm, Act}
use Rattle.drills.specs.Lines.{LineTold, head, trace, entry, list, receipt, part_head}

abbrev pub StampFits : Stamp → Type 0
StampFits stamp = (stamp.clock < 2 ^ 64) × (stamp.node < 2 ^ 8)

abbrev pub AskFits : AskTold → Type 0
AskFits (sets name text) = Unit {0}
AskFits (removes name) = Unit {0}
AskFits (loads text) = Unit {0}
AskFits (passes name) = Unit {0}
AskFits (shifts name term to amount) = (term < 2 ^ 8) × (to < 2 ^ 8) × (amount < 2 ^ 64)
AskFits (grants name term amount) = (term < 2 ^ 8) × (amount < 2 ^ 64)
AskFits (emits to) = to < 2 ^ 8
AskFits (delivers bytes) = IsBytes bytes

-- a time of a task
abbrev pub TaskFits : TaskValue → Type 0
TaskFits (sleep time) = time < 2 ^ 64
TaskFits (delay time) = time < 2 ^ 64
TaskFits _ = Unit {0}

abbrev pub PassFits : Passed → Type 0
PassFits Unset = Unit {0}
PassFits (NoTerm stamp) = StampFits stamp
PassFits (Act stamp term task) = StampFits stamp × (term < 2 ^ 8) × TaskFits task

abbrev pub ReplyFits : ReplyTold → Type 0
ReplyFits (was_set stamp) = StampFits stamp
ReplyFits (was_removed stamp) = StampFits stamp
ReplyFits (was_loaded entries) = entries < 2 ^ 16
ReplyFits (was_passed outcome) = PassFits outcome
ReplyFits (was_shifted total) = total < 2 ^ 64
ReplyFits (was_granted total) = total < 2 ^ 64
ReplyFits (was_emitted bytes) = IsBytes bytes
ReplyFits (was_delivered changed) = Unit {0}

abbrev pub WordsFit : List ℕ → Type 0
WordsFit words = All (λ word. word < 2 ^ 32) words

pub record ToldFits (e : Told) : Type 0 where
  pub ask : AskFits e.ask
  pub words : WordsFit e.words
  pub reply : ReplyFits e.reply

abbrev pub LineFits : LineTold → Type 0
LineFits (head pieces) = Unit {0}
LineFits (trace node from) = (node < 2 ^ 64) × IfSome from (λ told. told < 2 ^ 64)
LineFits (entry e) = ToldFits e
LineFits (list number from) = (number < 2 ^ 64) × IfSome from (λ told. told < 2 ^ 64)
LineFits (receipt r) = (r.node < 2 ^ 8) × (r.index < 2 ^ 32) × ToldFits r.entry
LineFits (part_head h) = (h.node < 2 ^ 8) × (h.nodes < 2 ^ 8) × (h.cap < 2 ^ 64)
