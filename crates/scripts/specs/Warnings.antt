-- What a script that isn't checked is warned of: its bad lines, and passes of points that aren't set.
use Rattle.std.specs.Prelude.{ℕ, ◌+◌, ◌==◌, Bool, true, false, List, [], ◌∷◌, ◌++◌, is_some, nat_lt, if◌then◌else◌, Option, None, codes, decimal}
use Rattle.answers.specs.Answers.{kind_in}
use Rattle.answers.specs.declared.answer.Kind.{Kind}
use Rattle.answers.specs.declared.answer.Kind.TheVariants as kinds
use Rattle.cluster_model.specs.Events.{WorldValue}
use Rattle.streams.specs.Fields.{lines_of}
use Rattle.streams.specs.Lines.{is_skipped}
use Rattle.warnings.specs.Lines.{text_of_lines}
use Rattle.scripts.specs.declared.form.Form.{Form}
use Rattle.scripts.specs.Script.{command_in}
use Rattle.scripts.specs.Written.{form_text, line_answer, printed_with}
use Rattle.scripts.specs.Faults.{bad_said, said_by, why_bad}

-- the most bad lines that are named
abbrev pub most_named : ℕ
most_named = 20

-- between two lines: the number of the next one, and how many were bad, and how many passes met a point that isn't set
pub record Warned : Type 0 where
  pub number : ℕ
  pub bad : ℕ
  pub unset : ℕ

-- a pass met a point that isn't set
abbrev pub is_unset : Kind → Bool
is_unset kinds.Unset = true
is_unset kinds.Refused = false
is_unset kinds.Other = false

-- why a line is bad, if it is
abbrev pub bad_in : Option WorldValue → List ℕ → Option (List ℕ)
bad_in w line = if is_skipped line then None else why_bad w line (command_in line)

abbrev pub count_one : Bool → ℕ
count_one b = if b then 1 else 0

abbrev pub line_warned : Option WorldValue → Warned → List ℕ → List (List ℕ)
line_warned w s line = if nat_lt s.bad most_named then bad_said s.number (bad_in w line) else []

abbrev pub after_warned : Option WorldValue → Warned → List ℕ → Warned
after_warned w s line = record {
  number = s.number + 1;
  bad = s.bad + count_one (is_some (bad_in w line));
  unset = s.unset + count_one (is_unset (kind_in (line_answer w line)));
}

-- in the end: how many bad lines there were, where not all were named, and how many such passes, if any
abbrev pub bad_sum : ℕ → List (List ℕ)
bad_sum bad = if nat_lt most_named bad then (codes "bad lines: " ++ decimal bad) ∷ [] else []

abbrev pub unset_sum : ℕ → List (List ℕ)
unset_sum unset =
    if unset == 0 then [] else (codes "evaluations of points that aren't set: " ++ decimal unset) ∷ []

abbrev pub warned_sums : Warned → List (List ℕ)
warned_sums s = bad_sum s.bad ++ unset_sum s.unset

abbrev pub unwarned : Warned
unwarned = record { number = 1; bad = 0; unset = 0 }

-- what a script is warned of, a line each: nothing, where nothing goes wrong
unfoldable pub warned_lines : List ℕ → List (List ℕ)
warned_lines script = said_by line_warned after_warned warned_sums None unwarned (lines_of script)

abbrev pub warned_text : List ℕ → List ℕ
warned_text script = text_of_lines (warned_lines script)

-- what is printed of it
abbrev pub warned_output : Form → List ℕ → List ℕ
warned_output form script = printed_with form (form_text form script) (warned_lines script)
