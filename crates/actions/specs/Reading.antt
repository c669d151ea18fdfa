-- Reading an action text step by step, with the first refusal.
use Rattle.std.specs.Prelude.{ℕ, ◌+◌, Bool, true, false, ◌&&◌, ◌||◌, not, List, [], ◌∷◌, length, Option, Some, None, Result, Ok, Err, ok_or, nat_lt, ◌==◌, if◌then◌else◌, slice_index, take, ◌-◌, codes, bytes_eq, position}
use Rattle.std.specs.List.{onto_first}
use Rattle.refusals.specs.Refusals.{◌>>=◌, GivesUnless}
use Rattle.actions.specs.declared.fault.ActionFault.{ActionFault}
use Rattle.actions.specs.declared.fault.ActionFault.TheVariants as faults
use Rattle.actions.specs.Limits.{max_text, max_terms, all_parts}
use Rattle.actions.specs.Bytes.{has_byte, text_before, text_after, without_end, space, percent_sign, opening_parenthesis, closing_parenthesis, star, dash, semicolon, greater_sign, delete}
use Rattle.actions.specs.Numbers.{number_at, percent_at}
use Rattle.actions.specs.Value.{TaskValue, off, «return», sleep, panic, print, pause, yield, delay, TermValue}

-- memory was refused
abbrev pub is_out_of_memory : ActionFault → Bool
is_out_of_memory faults.OutOfMemory = true
is_out_of_memory fault = false

-- what is read is what a function returned, seen by `view`, unless memory ran out
abbrev pub Gives : {X Y : Type 0} → (X → Y) → Result X ActionFault → Result Y ActionFault → Type 0
Gives = GivesUnless is_out_of_memory

-- control bytes and the semicolon
abbrev pub is_bad_byte : ℕ → Bool
is_bad_byte b = nat_lt b space || (b == delete) || (b == semicolon)

-- the parts round each `->`, found from the left
unfoldable pub pieces : List ℕ → List (List ℕ)
pieces [] = [] ∷ []
pieces (a ∷ []) = (a ∷ []) ∷ []
pieces (a ∷ b ∷ bs) =
    if (a == dash) && (b == greater_sign) then [] ∷ pieces bs else onto_first a (pieces (b ∷ bs))

-- without the spaces at both ends
abbrev pub front_trimmed_text : List ℕ → List ℕ
front_trimmed_text [] = []
front_trimmed_text (b ∷ bs) = if b == space then front_trimmed_text bs else b ∷ bs

unfoldable pub trimmed_text : List ℕ → List ℕ
trimmed_text bs = without_end space (front_trimmed_text bs)

-- the head and the argument of a term without spaces at its ends
unfoldable pub argument_at : ℕ → List ℕ → Result (List ℕ × Option (List ℕ)) ActionFault
argument_at k text = if not (has_byte opening_parenthesis text) then Ok (text, None)
    else if slice_index text (length text - 1) == closing_parenthesis
    then Ok (
      text_before opening_parenthesis text,
      Some (take (length (text_after opening_parenthesis text) - 1) (text_after opening_parenthesis text)),
    )
    else Err (faults.Unclosed k)

-- the chance, and the rest of the head
unfoldable pub chance_at : ℕ → List ℕ → Result (ℕ × List ℕ) ActionFault
chance_at k head = if not (has_byte percent_sign head) then Ok (all_parts, head)
    else (do
      ppm ← ok_or (percent_at (text_before percent_sign head)) (faults.BadPercent k)
      Ok (ppm, text_after percent_sign head))

-- the count, and the task's word
unfoldable pub count_at : ℕ → List ℕ → Result (Option ℕ × List ℕ) ActionFault
count_at k head = if not (has_byte star head) then Ok (None, head)
    else (do
      n ← ok_or (number_at (text_before star head)) (faults.BadCount k)
      Ok (Some n, text_after star head))

-- the time that an argument gives
unfoldable pub time_at : ℕ → Option (List ℕ) → Result ℕ ActionFault
time_at k None = Err (faults.NeedsTime k)
time_at k (Some text) = ok_or (number_at text) (faults.BadTime k)

-- the task of a word with its argument
unfoldable pub task_at : ℕ → List ℕ → Option (List ℕ) → Result TaskValue ActionFault
task_at k word argument =
    if length word == 0 then Err (faults.NoTask k)
    else if bytes_eq word (codes "off") then Ok off
    else if bytes_eq word (codes "return") then Ok («return» argument)
    else if bytes_eq word (codes "sleep") then (do
      n ← time_at k argument
      Ok (sleep n))
    else if bytes_eq word (codes "panic") then Ok (panic argument)
    else if bytes_eq word (codes "print") then Ok (print argument)
    else if bytes_eq word (codes "pause") then Ok pause
    else if bytes_eq word (codes "yield") then Ok yield
    else if bytes_eq word (codes "delay") then (do
      n ← time_at k argument
      Ok (delay n))
    else Err (faults.UnknownTask k)

-- term k, whose text has lost the spaces at its ends
unfoldable pub term_at : ℕ → List ℕ → Result TermValue ActionFault
term_at k text = do
  parts ← argument_at k text
  chance ← chance_at k parts.0
  count ← count_at k chance.1
  task ← task_at k count.1 parts.1
  Ok (record { ppm = chance.0; count = count.0; task = task })

-- the terms from number k on
unfoldable pub terms_at : ℕ → List (List ℕ) → Result (List TermValue) ActionFault
terms_at k [] = Ok []
terms_at k (piece ∷ others) = do
  first ← term_at k (trimmed_text piece)
  rest ← terms_at (k + 1) others
  Ok (first ∷ rest)

-- a bad byte refuses, by its place
abbrev pub unless_bad_byte : Option ℕ → Result (List TermValue) ActionFault → Result (List TermValue) ActionFault
unless_bad_byte (Some i) read = Err (faults.BadByte i)
unless_bad_byte None read = read

-- the whole text
unfoldable pub reading : List ℕ → Result (List TermValue) ActionFault
reading text = if nat_lt max_text (length text) then Err faults.TooLong
    else unless_bad_byte (position is_bad_byte text)
    (if nat_lt max_terms (length (pieces text)) then Err faults.TooManyTerms else terms_at 0 (pieces text))
