-- What is said of the bad lines of a script of threads.
use Rattle.std.specs.Prelude.{ℕ, ◌+◌, Bool, ◌||◌, not, List, [], ◌∷◌, ◌++◌, is_some, nat_lt, if◌then◌else◌, Option, Some, None, codes, decimal}
use Rattle.std.specs.Option.{is_none}
use Rattle.streams.specs.Fields.{lines_of}
use Rattle.streams.specs.Lines.{◌>>=◌, is_skipped}
use Rattle.thread_plans.specs.Lines.{line_in}
use Rattle.thread_plans.specs.Plans.{StageValue, empty, after_text, line_count}
use Rattle.thread_plans.specs.Wanted.{wanted, wanted_at_end, wanted_in}

-- the most bad lines that are named
abbrev pub most_named : ℕ
most_named = 20

-- of a line, by its number
abbrev pub why_said : ℕ → List ℕ → List (List ℕ)
why_said number why = (codes "line " ++ (decimal number ++ (codes ": bad line: " ++ why))) ∷ []

abbrev pub bad_said : ℕ → Option (List ℕ) → List (List ℕ)
bad_said number None = []
bad_said number (Some why) = why_said number why

-- between two lines: what the lines came to, until one was bad; the number of the next one; and how many were bad
pub record Naming : Type 0 where
  pub stage : Option StageValue
  pub number : ℕ
  pub bad : ℕ

abbrev pub has_form : List ℕ → Bool
has_form line = is_skipped line || is_some (line_in line)

-- what the lines come to with one more, where none was bad
abbrev pub stage_behind : Option StageValue → List ℕ → Option StageValue
stage_behind stage line = stage >>= (λ s. after_text s line)

-- whether a line is bad: up to the first that is, each is to be one of a script and to stand in its place; behind that
-- one, each is to have one of the forms
abbrev pub is_bad : Option StageValue → List ℕ → Bool
is_bad stage line = if is_some stage then is_none (stage_behind stage line) else not (has_form line)

abbrev pub wanted_behind : Option StageValue → List ℕ → List ℕ
wanted_behind None line = wanted_in line
wanted_behind (Some s) line = wanted s line

abbrev pub why_bad : Option StageValue → List ℕ → Option (List ℕ)
why_bad stage line = if is_bad stage line then Some (wanted_behind stage line) else None

abbrev pub line_said : Naming → List ℕ → List (List ℕ)
line_said n line = if nat_lt n.bad most_named then bad_said n.number (why_bad n.stage line) else []

abbrev pub count_one : Bool → ℕ
count_one b = if b then 1 else 0

abbrev pub after_named : Naming → List ℕ → Naming
after_named n line = record {
  stage = stage_behind n.stage line;
  number = n.number + 1;
  bad = n.bad + count_one (is_bad n.stage line);
}

-- how many lines were bad, where not all were named
abbrev pub bad_sum : ℕ → List (List ℕ)
bad_sum bad = if nat_lt most_named bad then (codes "bad lines: " ++ decimal bad) ∷ [] else []

abbrev pub end_wanted : Option StageValue → Option (List ℕ)
end_wanted stage = stage >>= wanted_at_end

-- behind the last line, where the next would have this number: that the script stops early, if it does, and the sum
abbrev pub end_said : ℕ → Naming → List (List ℕ)
end_said next n = bad_said next (end_wanted n.stage) ++ bad_sum n.bad

abbrev pub said_from : ℕ → Naming → List (List ℕ) → List (List ℕ)
said_from next n [] = end_said next n
said_from next n (line ∷ lines) = line_said n line ++ said_from next (after_named n line) lines

abbrev pub none_named : Naming
none_named = record { stage = Some empty; number = 1; bad = 0 }

-- of a script, a line each: nothing, where it has a plan
unfoldable pub bad_lines : List ℕ → List (List ℕ)
bad_lines script = said_from (line_count script + 1) none_named (lines_of script)
