-- The grammar of action texts: a relation between whole texts and what they stand for.
use Rattle.std.specs.Prelude.{◌≡◌, ◌≢◌, ℕ, ◌+◌, ◌*◌, ◌^◌, ◌<◌, ◌≤◌, List, [], ◌∷◌, ◌++◌, length, replicate, Option, Some, None, codes}
use Rattle.std.specs.List.{AllByRecursion}
use Rattle.std.specs.Str.Parse.{IsNumeral, digits_value}
use Rattle.actions.specs.Limits.{max_text, max_terms, all_parts, parts_per_cent}
use Rattle.actions.specs.Bytes.{space, semicolon, delete}
use Rattle.actions.specs.Numbers.{four_decimals}
use Rattle.actions.specs.Value.{TaskValue, off, «return», sleep, panic, print, pause, yield, delay, TermValue}

-- ds is one to so many digits
abbrev pub IsShort : ℕ → List ℕ → Type 0
IsShort most ds = IsNumeral 10 ds × (length ds ≤ most)

-- ds is a number that fits 64 bits
abbrev pub IsNumber : List ℕ → ℕ → Type 0
IsNumber ds n = IsNumeral 10 ds × (n ≡ digits_value 10 ds) × (n < 2 ^ 64)

-- a percentage as it is written: digits, and perhaps decimals behind a point
pub data Percent : Type 0 where
  whole : List ℕ → Percent
  pointed : List ℕ → List ℕ → Percent

abbrev pub percent_text : Percent → List ℕ
percent_text (whole ds) = ds
percent_text (pointed ds decimals) = ds ++ (codes "." ++ decimals)

-- the parts per million that it stands for
abbrev pub PercentIs : Percent → ℕ → Type 0
PercentIs (whole ds) ppm =
    IsShort 3 ds
    × (ppm ≡ digits_value 10 ds * parts_per_cent)
    × (ppm ≤ all_parts)
PercentIs (pointed ds decimals) ppm =
    IsShort 3 ds
    × IsShort 4 decimals
    × (ppm ≡ digits_value 10 ds * parts_per_cent + digits_value 10 (four_decimals decimals))
    × (ppm ≤ all_parts)

-- nothing where no percentage is written
abbrev pub chance_text : Option Percent → List ℕ
chance_text None = []
chance_text (Some p) = percent_text p ++ codes "%"

-- all parts where no percentage is written
abbrev pub ChanceIs : Option Percent → ℕ → Type 0
ChanceIs None ppm = ppm ≡ all_parts
ChanceIs (Some p) ppm = PercentIs p ppm

abbrev pub count_text : Option (List ℕ) → List ℕ
count_text None = []
count_text (Some ds) = ds ++ codes "*"

abbrev pub CountIs : Option (List ℕ) → Option ℕ → Type 0
CountIs None None = Unit {0}
CountIs (Some ds) (Some n) = IsNumber ds n
CountIs _ _ = ⊥

-- the word of a task
abbrev pub word_of : TaskValue → List ℕ
word_of off = codes "off"
word_of («return» a) = codes "return"
word_of (sleep n) = codes "sleep"
word_of (panic a) = codes "panic"
word_of (print a) = codes "print"
word_of pause = codes "pause"
word_of yield = codes "yield"
word_of (delay n) = codes "delay"

abbrev pub argument_text : Option (List ℕ) → List ℕ
argument_text None = []
argument_text (Some a) = codes "(" ++ (a ++ codes ")")

-- the argument is a time, which has to be there
abbrev pub TimeIs : Option (List ℕ) → ℕ → Type 0
TimeIs None n = ⊥
TimeIs (Some ds) n = IsNumber ds n

-- what the argument of a task may be: any where the task has no use for it
abbrev pub ArgumentIs : Option (List ℕ) → TaskValue → Type 0
ArgumentIs a off = Unit {0}
ArgumentIs a («return» text) = a ≡ text
ArgumentIs a (sleep n) = TimeIs a n
ArgumentIs a (panic text) = a ≡ text
ArgumentIs a (print text) = a ≡ text
ArgumentIs a pause = Unit {0}
ArgumentIs a yield = Unit {0}
ArgumentIs a (delay n) = TimeIs a n

-- a term as it is written, part by part, with so many spaces before and after it
pub record WrittenTerm : Type 0 where
  pub before : ℕ
  pub chance : Option Percent
  pub count : Option (List ℕ)
  pub word : List ℕ
  pub argument : Option (List ℕ)
  pub after : ℕ

-- without the spaces
abbrev pub core_text : WrittenTerm → List ℕ
core_text w = chance_text w.chance ++ (count_text w.count ++ (w.word ++ argument_text w.argument))

abbrev pub written_text : WrittenTerm → List ℕ
written_text w = replicate w.before space ++ (core_text w ++ replicate w.after space)

-- a term that is written so means this
pub record Means (w : WrittenTerm) (t : TermValue) : Type 0 where
  pub chance : ChanceIs w.chance t.ppm
  pub count : CountIs w.count t.count
  pub word : w.word ≡ word_of t.task
  pub argument : ArgumentIs w.argument t.task

-- the text spells the term
abbrev pub SpellsTerm : List ℕ → TermValue → Type 0
SpellsTerm text t = (w : WrittenTerm) × Means w t × (text ≡ written_text w)

abbrev pub arrow : List ℕ
arrow = codes "->"

-- no `->` stands in it
abbrev pub LacksArrow : List ℕ → Type 0
LacksArrow text = (front back : List ℕ) → text ≢ front ++ (arrow ++ back)

-- the pieces with an arrow between each two
abbrev pub with_arrows : List (List ℕ) → List ℕ
with_arrows [] = []
with_arrows (p ∷ []) = p
with_arrows (p ∷ q ∷ ps) = p ++ (arrow ++ with_arrows (q ∷ ps))

-- the pieces spell the terms, one each
abbrev pub SpellEach : List (List ℕ) → List TermValue → Type 0
SpellEach [] [] = Unit {0}
SpellEach (p ∷ ps) (t ∷ ts) = LacksArrow p × SpellsTerm p t × SpellEach ps ts
SpellEach _ _ = ⊥

-- no control byte, and no semicolon
abbrev pub IsPlain : ℕ → Type 0
IsPlain b = (space ≤ b) × (b ≢ delete) × (b ≢ semicolon)

-- the text spells the terms: its pieces do, and it keeps to the limits
pub record SpellsActions (text : List ℕ) (terms : List TermValue) : Type 0 where
  pub short : length text ≤ max_text
  pub plain : AllByRecursion IsPlain text
  pub some : 0 < length terms
  pub few : length terms ≤ max_terms
  pub pieces : (ps : List (List ℕ)) × SpellEach ps terms × (text ≡ with_arrows ps)
