-- What the events of a cluster are answered, and its text.
use Rattle.std.specs.Prelude.{ℕ, Ok, Err, List}
use Rattle.answers.specs.Answers.{AnswerValue, set, removed, loaded, unset, no_term, act, shifted, granted, message, delivered, refused}
use Rattle.answers.specs.Lines.{set_text, removed_text, loaded_text, pass_text, shifted_text, granted_text, message_text, delivered_text, refused_text}
use Rattle.node_calls.specs.Asks.{Answered, IsSet, IsRemoved, IsLoaded, IsPassed, IsShifted, IsGranted, IsEmitted, IsDelivered}
use Rattle.node_calls.specs.Told.{Passed, Unset, NoTerm, Act}
use Rattle.cluster_model.specs.Events.{Answer}

-- the text of a reply, where so many messages were made before
abbrev pub reply_text : ℕ → Answered → List ℕ
reply_text messages (IsSet stamp) = set_text stamp
reply_text messages (IsRemoved stamp) = removed_text stamp
reply_text messages (IsLoaded entries) = loaded_text entries
reply_text messages (IsPassed reply) = pass_text reply
reply_text messages (IsShifted total) = shifted_text total
reply_text messages (IsGranted total) = granted_text total
reply_text messages (IsEmitted read) = message_text messages
reply_text messages (IsDelivered changed) = delivered_text changed

-- of a reply or a refusal
abbrev pub answer_text : ℕ → Answer → List ℕ
answer_text messages (Ok reply) = reply_text messages reply
answer_text messages (Err fault) = refused_text fault

-- ---- the same as an answer

abbrev pub pass_answer : Passed → AnswerValue
pass_answer Unset = unset
pass_answer (NoTerm stamp) = no_term stamp
pass_answer (Act stamp term task) = act stamp term task

abbrev pub reply_answer : ℕ → Answered → AnswerValue
reply_answer messages (IsSet stamp) = set stamp
reply_answer messages (IsRemoved stamp) = removed stamp
reply_answer messages (IsLoaded entries) = loaded entries
reply_answer messages (IsPassed reply) = pass_answer reply
reply_answer messages (IsShifted total) = shifted total
reply_answer messages (IsGranted total) = granted total
reply_answer messages (IsEmitted read) = message messages
reply_answer messages (IsDelivered changed) = delivered changed

abbrev pub answered_as : ℕ → Answer → AnswerValue
answered_as messages (Ok reply) = reply_answer messages reply
answered_as messages (Err fault) = refused fault
