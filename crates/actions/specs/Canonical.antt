-- The one canonical spelling of terms.
use Rattle.std.specs.Prelude.{ℕ, ◌+◌, ◌/◌, ◌%◌, List, [], ◌∷◌, ◌++◌, map, Option, Some, None, option_map, decimal, ◌==◌, if◌then◌else◌}
use Rattle.actions.specs.Limits.{all_parts, parts_per_cent}
use Rattle.actions.specs.Bytes.{without_end, zero_digit}
use Rattle.actions.specs.Value.{TaskValue, off, «return», sleep, panic, print, pause, yield, delay, TermValue}
use Rattle.actions.specs.Grammar.{Percent, whole, pointed, word_of, argument_text, WrittenTerm, core_text, with_arrows}

-- the byte of a digit
abbrev pub digit : ℕ → ℕ
digit n = zero_digit + n

-- the digits of a number below 10000
abbrev pub four_digits : ℕ → List ℕ
four_digits n = digit (n / 1000) ∷ digit (n / 100 % 10) ∷ digit (n / 10 % 10) ∷ digit (n % 10) ∷ []

-- the whole part, and the decimals where there are some
abbrev pub percent_of : ℕ → Percent
percent_of ppm = if ppm % parts_per_cent == 0
    then whole (decimal (ppm / parts_per_cent))
    else pointed (decimal (ppm / parts_per_cent)) (without_end zero_digit (four_digits (ppm % parts_per_cent)))

-- all parts go without saying
abbrev pub chance_of : ℕ → Option Percent
chance_of ppm = if ppm == all_parts then None else Some (percent_of ppm)

-- the argument that a task has
abbrev pub argument_of : TaskValue → Option (List ℕ)
argument_of off = None
argument_of («return» text) = text
argument_of (sleep n) = Some (decimal n)
argument_of (panic text) = text
argument_of (print text) = text
argument_of pause = None
argument_of yield = None
argument_of (delay n) = Some (decimal n)

-- the task with its argument
abbrev pub task_text : TaskValue → List ℕ
task_text task = word_of task ++ argument_text (argument_of task)

-- how a term is written canonically: with no spaces
abbrev pub canonical_term : TermValue → WrittenTerm
canonical_term t = record {
  before = 0;
  chance = chance_of t.ppm;
  count = option_map decimal t.count;
  word = word_of t.task;
  argument = argument_of t.task;
  after = 0;
}

abbrev pub term_text : TermValue → List ℕ
term_text t = core_text (canonical_term t)

abbrev pub canonical : List TermValue → List ℕ
canonical ts = with_arrows (map term_text ts)
