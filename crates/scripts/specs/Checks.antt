-- A script that is checked: its lines `expect <text>`, and what is said of the lines that fail.
use Rattle.std.specs.Prelude.{ℕ, ◌+◌, ◌==◌, Bool, true, false, ◌&&◌, ◌||◌, List, [], ◌++◌, length, take, drop, is_some, nat_lt, slice_index, if◌then◌else◌, Option, Some, None, codes}
use Rattle.std.specs.List.{before_first, after_first}
use Rattle.std.specs.Str.{bytes_eq}
use Rattle.answers.specs.Answers.{AnswerValue, kind_in}
use Rattle.answers.specs.Printing.{written_in}
use Rattle.answers.specs.declared.answer.Kind.{Kind}
use Rattle.answers.specs.declared.answer.Kind.TheVariants as kinds
use Rattle.answers.specs.declared.printed.Format.TheVariants as formats
use Rattle.cluster_model.specs.Events.{WorldValue}
use Rattle.streams.specs.Fields.{lines_of, newline, space}
use Rattle.streams.specs.Lines.{is_skipped}
use Rattle.warnings.specs.Lines.{text_of_lines}
use Rattle.scripts.specs.declared.form.Form.{Form}
use Rattle.scripts.specs.declared.form.Form.TheVariants as forms
use Rattle.scripts.specs.Script.{command_in, echo_of, line_output, text_from}
use Rattle.scripts.specs.Written.{line_answer, printed_with}
use Rattle.scripts.specs.Faults.{said_of, said_by, bad_said, missing_said, why_bad, why_missing}

abbrev pub begins : List ℕ → List ℕ → Bool
begins front text = bytes_eq front (take (length front) text)

-- the text of a line `expect <text>`; of `expect` alone it is empty
abbrev pub expected_in : List ℕ → Option (List ℕ)
expected_in line =
    if bytes_eq line (codes "expect") then Some [] else
    (if begins (codes "expect ") line then Some (drop 7 line) else None)

abbrev pub is_line_end : ℕ → Bool
is_line_end byte = byte == newline

abbrev pub first_line : List ℕ → List ℕ
first_line text = before_first is_line_end text

abbrev pub later_lines : List ℕ → List ℕ
later_lines text = after_first is_line_end text

-- a refusal goes on behind a text with a space
abbrev pub goes_on : List ℕ → List ℕ → Bool
goes_on front text =
    nat_lt (length front) (length text) && ((slice_index text (length front) == space) && begins front text)

abbrev pub is_refused : Kind → Bool
is_refused kinds.Unset = false
is_refused kinds.Refused = true
is_refused kinds.Other = false

-- an answer of this kind is just what was expected, or a refusal that begins so
abbrev pub meets : Kind → List ℕ → List ℕ → Bool
meets kind expected answer = bytes_eq expected answer || (is_refused kind && goes_on expected answer)

-- an answer that has to be expected
abbrev pub is_alarm : Kind → Bool
is_alarm kinds.Unset = true
is_alarm kinds.Refused = true
is_alarm kinds.Other = false

-- between two lines: the number of the next one; and of the line that was answered last its number, the kind of its
-- answer, what of this no line has expected yet, and whether a line has expected some of it
pub record Checking : Type 0 where
  pub number : ℕ
  pub asked : ℕ
  pub kind : Kind
  pub rest : List ℕ
  pub met : Bool

-- of an empty answer no line is left to expect
abbrev pub shown : List ℕ → List ℕ
shown text = if length text == 0 then codes "nothing" else text

-- what is said of a line that expects a text, where the answer goes on otherwise
abbrev pub missed : ℕ → Kind → List ℕ → List ℕ → List (List ℕ)
missed number kind expected answer =
    if meets kind expected answer then []
    else said_of number (codes "expected " ++ shown expected ++ codes ", got " ++ shown answer)

-- an answer is left over where no line expects an alarm, or where lines expected some of it and not all
abbrev pub is_left : Checking → Bool
is_left c = nat_lt 0 (length c.rest) && (c.met || is_alarm c.kind)

abbrev pub settled : Checking → List (List ℕ)
settled c = if is_left c then said_of c.asked (codes "not expected: " ++ first_line c.rest) else []

-- what is said at a line that asks for something: of the answer before it, and of the line
abbrev pub asked_said : Option WorldValue → Checking → List ℕ → List (List ℕ)
asked_said w c line =
    settled c ++ (bad_said c.number (why_bad w line (command_in line))
    ++ missing_said c.number (why_missing w (command_in line)))

abbrev pub read_said : Option WorldValue → Checking → List ℕ → Option (List ℕ) → List (List ℕ)
read_said w c line None = asked_said w c line
read_said w c line (Some expected) = missed c.number c.kind expected (first_line c.rest)

-- what is said at any line
abbrev pub line_said : Option WorldValue → Checking → List ℕ → List (List ℕ)
line_said w c line = if is_skipped line then [] else read_said w c line (expected_in line)

-- how it goes on behind a line: an answer waits to be expected, and an expected line of it is taken
abbrev pub skipping : Checking → Checking
skipping c = record c { number = c.number + 1 }

abbrev pub taking : Checking → Checking
taking c = record c { number = c.number + 1; rest = later_lines c.rest; met = true }

abbrev pub waiting : Checking → Option AnswerValue → Checking
waiting c answer = record {
  number = c.number + 1;
  asked = c.number;
  kind = kind_in answer;
  rest = written_in formats.Lines answer;
  met = false;
}

abbrev pub read_checked : Option WorldValue → Checking → List ℕ → Option (List ℕ) → Checking
read_checked w c line None = waiting c (line_answer w line)
read_checked w c line (Some expected) = taking c

abbrev pub line_checked : Option WorldValue → Checking → List ℕ → Checking
line_checked w c line = if is_skipped line then skipping c else read_checked w c line (expected_in line)

-- before the first line nothing was answered
abbrev pub unchecked : Checking
unchecked = record { number = 1; asked = 0; kind = kinds.Other; rest = []; met = false }

-- what is said of a script, and of the answer that is left behind the last line, a line each: nothing, where no line of
-- it fails
unfoldable pub checked_lines : List ℕ → List (List ℕ)
checked_lines script = said_by line_said line_checked settled None unchecked (lines_of script)

abbrev pub checked_text : List ℕ → List ℕ
checked_text script = text_of_lines (checked_lines script)

-- and the exit status
abbrev pub checked_status : List ℕ → ℕ
checked_status script = if length (checked_lines script) == 0 then 0 else 3

-- ---- what is printed: a line that expects something prints nothing

abbrev pub plain_output : Option WorldValue → List ℕ → List ℕ
plain_output w line = if is_some (expected_in line) then [] else line_output w line

abbrev pub echoing_output : Option WorldValue → List ℕ → List ℕ
echoing_output w line = echo_of line ++ plain_output w line

abbrev pub checked_answer : Option WorldValue → List ℕ → Option AnswerValue
checked_answer w line = if is_some (expected_in line) then None else line_answer w line

abbrev pub checked_output : Form → Option WorldValue → List ℕ → List ℕ
checked_output forms.Plain w line = plain_output w line
checked_output forms.Echoed w line = echoing_output w line
checked_output forms.Objects w line = written_in formats.Objects (checked_answer w line)

unfoldable pub answered_text : Form → List ℕ → List ℕ
answered_text form script = text_from (checked_output form) None (lines_of script)

-- with what is said of it
abbrev pub told_text : Form → List ℕ → List ℕ
told_text form script = printed_with form (answered_text form script) (checked_lines script)
