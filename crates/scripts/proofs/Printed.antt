-- What is printed of a line by the writer of lines is its text, and what a form prints.
use Rattle.std.proofs.Common.{◌≡◌, ℕ, Bool, true, false, List, [], ◌++◌, Option, Some, None, refl, ap, ◌∙◌, append_assoc, length}
use Rattle.std.specs.Prelude.{if◌then◌else◌, OnOk, Result, Ok, Err, is_some, slice_get}
use Rattle.answers.specs.Answers.{AnswerValue, refused}
use Rattle.answers.specs.Lines.{line_of, refused_text}
use Rattle.answers.specs.Printing.{Printing, after_put, with_bytes, written_in}
use Rattle.answers.specs.declared.printed.Format.{Format}
use Rattle.answers.specs.declared.printed.Format.TheVariants as formats
use Rattle.node_calls.specs.Asks.{IsSet, IsRemoved, IsLoaded, IsPassed, IsShifted, IsGranted, IsEmitted, IsDelivered}
use Rattle.node_calls.specs.Told.{Unset, NoTerm, Act}
use Rattle.node_calls.specs.declared.fault.NodeFault.TheVariants.{BadConfig}
use Rattle.node_core.specs.Traces.{Kept}
use Rattle.cluster_model.specs.declared.fault.WorldFault.TheVariants.{Refused}
use Rattle.cluster_model.specs.Worlds.{is_cluster_size}
use Rattle.cluster_model.specs.Events.{Answer, WorldValue, answer}
use Rattle.streams.specs.Fields.{output_line}
use Rattle.streams.specs.Lines.{is_skipped}
use Rattle.scripts.specs.Commands.{CommandValue, nodes, event, question, QuestionValue, list, report, rights, spent, hits}
use Rattle.scripts.specs.Checks.{checked_answer, checked_output, expected_in}
use Rattle.scripts.specs.Questions.{question_answer_at, question_output_at}
use Rattle.scripts.specs.Replies.{answer_text, answered_as}
use Rattle.scripts.specs.Script.{command_in, command_output, echo_of, line_output, read_output}
use Rattle.scripts.specs.Written.{command_answer, echo_in, form_output, format_of, line_answer, read_answer}
use Rattle.scripts.specs.declared.form.Form.{Form}
use Rattle.scripts.specs.declared.form.Form.TheVariants as forms

event_printed : (messages : ℕ) (a : Answer) → line_of (answered_as messages a) ≡ output_line (answer_text messages a)
event_printed messages (Ok (IsSet stamp)) = refl
event_printed messages (Ok (IsRemoved stamp)) = refl
event_printed messages (Ok (IsLoaded entries)) = refl
event_printed messages (Ok (IsPassed Unset)) = refl
event_printed messages (Ok (IsPassed (NoTerm stamp))) = refl
event_printed messages (Ok (IsPassed (Act stamp term task))) = refl
event_printed messages (Ok (IsShifted total)) = refl
event_printed messages (Ok (IsGranted total)) = refl
event_printed messages (Ok (IsEmitted read)) = refl
event_printed messages (Ok (IsDelivered changed)) = refl
event_printed messages (Err fault) = refl

question_printed : (k : Option Kept) (q : QuestionValue) → line_of (question_answer_at k q) ≡ question_output_at k q
question_printed None q = refl
question_printed (Some k) list = refl
question_printed (Some k) report = refl
question_printed (Some k) (rights name term node) = refl
question_printed (Some k) (spent name term) = refl
question_printed (Some k) (hits name) = refl

command_printed : (w : Option WorldValue) (command : CommandValue) →
    written_in formats.Lines (command_answer w command) ≡ command_output w command
command_printed None (nodes count cap) = by_size (is_cluster_size count)
  where
    by_size : (b : Bool) → written_in formats.Lines (if b then None else Some (refused (Refused BadConfig)))
        ≡ (if b then [] else output_line (refused_text (Refused BadConfig)))
    by_size true = refl
    by_size false = refl
command_printed None (event e) = refl
command_printed None (question node asked) = refl
command_printed (Some w) (nodes count cap) = refl
command_printed (Some w) (event e) = event_printed (length w.messages) (answer w e)
command_printed (Some w) (question node asked) = question_printed (slice_get w.nodes node) asked

read_printed : (w : Option WorldValue) (c : Option CommandValue) →
    written_in formats.Lines (read_answer w c) ≡ read_output w c
read_printed w None = refl
read_printed w (Some command) = command_printed w command

pub line_printed : (w : Option WorldValue) (line : List ℕ) →
    written_in formats.Lines (line_answer w line) ≡ line_output w line
line_printed w line = at (is_skipped line)
  where
    at : (b : Bool) → written_in formats.Lines (if b then None else read_answer w (command_in line))
        ≡ (if b then [] else read_output w (command_in line))
    at true = refl
    at false = read_printed w (command_in line)

-- by a form
pub form_printed : (form : Form) (w : Option WorldValue) (line : List ℕ) →
    echo_in form line ++ written_in (format_of form) (line_answer w line) ≡ form_output form w line
form_printed forms.Plain w line = line_printed w line
form_printed forms.Echoed w line = ap (λ (text : List ℕ). echo_of line ++ text) (line_printed w line)
form_printed forms.Objects w line = refl

-- of a script that is checked
checked_printed : (w : Option WorldValue) (line : List ℕ) →
    written_in formats.Lines (checked_answer w line) ≡ (if is_some (expected_in line) then [] else line_output w line)
checked_printed w line = at (is_some (expected_in line))
  where
    at : (b : Bool) → written_in formats.Lines (if b then None else line_answer w line)
        ≡ (if b then [] else line_output w line)
    at true = refl
    at false = line_printed w line

pub form_checked : (form : Form) (w : Option WorldValue) (line : List ℕ) →
    echo_in form line ++ written_in (format_of form) (checked_answer w line) ≡ checked_output form w line
form_checked forms.Plain w line = checked_printed w line
form_checked forms.Echoed w line = ap (λ (text : List ℕ). echo_of line ++ text) (checked_printed w line)
form_checked forms.Objects w line = refl

-- what a form appends, by what is appended of a line
pub bytes_by_form : {E : Type 0} (form : Form) (line : List ℕ) (a : Option AnswerValue) (text : List ℕ)
    (old mid new : Printing) (r : Result (Unit {0}) E) → echo_in form line ++ written_in (format_of form) a ≡ text →
    old.format ≡ format_of form → mid ≡ with_bytes old (echo_in form line) → OnOk r (new ≡ after_put mid a) →
    OnOk r (new.bytes ≡ old.bytes ++ text)
bytes_by_form form line a text old mid new (Ok _) h f m n =
    ap (λ (p : Printing). p.bytes) (n ∙ ap (λ (p : Printing). after_put p a) m)
    ∙ append_assoc old.bytes (echo_in form line) (written_in old.format a)
    ∙ ap (λ (t : List ℕ). old.bytes ++ t)
    (ap (λ (format : Format). echo_in form line ++ written_in format a) f ∙ h)
bytes_by_form form line a text old mid new (Err _) h f m n = tt
