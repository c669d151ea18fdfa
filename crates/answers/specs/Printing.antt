-- What is printed: answers, by the writer that is wanted.
use Rattle.std.specs.Prelude.{ℕ, List, [], ◌++◌, Option, Some, None}
use Rattle.answers.specs.declared.answer.Kind.{Kind}
use Rattle.answers.specs.declared.answer.Kind.TheVariants as kinds
use Rattle.answers.specs.declared.printed.Format.{Format}
use Rattle.answers.specs.declared.printed.Format.TheVariants as formats
use Rattle.answers.specs.Answers.{AnswerValue, kind_in}
use Rattle.answers.specs.Lines.{line_of}
use Rattle.answers.specs.Objects.{object_of}

-- an answer by a writer
abbrev pub written : Format → AnswerValue → List ℕ
written formats.Lines answer = line_of answer
written formats.Objects answer = object_of answer

-- the same where there may be none
abbrev pub written_in : Format → Option AnswerValue → List ℕ
written_in format None = []
written_in format (Some answer) = written format answer

-- all that is printed so far, and the lines and the kind of the last answer
pub record Printing : Type 0 where
  pub format : Format
  pub bytes : List ℕ
  pub line : List ℕ
  pub kind : Kind

abbrev pub before_put : Format → Printing
before_put format = record { format = format; bytes = []; line = []; kind = kinds.Other }

-- with one more answer, or where nothing is answered
abbrev pub after_put : Printing → Option AnswerValue → Printing
after_put p answer = record {
  format = p.format;
  bytes = p.bytes ++ written_in p.format answer;
  line = written_in formats.Lines answer;
  kind = kind_in answer;
}

-- with bytes that are no answer
abbrev pub with_bytes : Printing → List ℕ → Printing
with_bytes p bytes = record { format = p.format; bytes = p.bytes ++ bytes; line = p.line; kind = p.kind }
