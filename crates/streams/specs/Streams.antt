-- What a script's run takes from its reader and gives to its writer, where their bytes are known.
use Rattle.std.specs.Prelude.{◌≡◌, ℕ, ◌≤◌, List, ◌++◌, length, Option, IfSome}
use Rattle.std.specs.Io.KnownBytes.{Appends, Consumes}
use Rattle.streams.specs.declared.watched.Watched.{Watched}
use Rattle.streams.specs.Watched.{inner_of}

-- no more than this many bytes were taken
abbrev pub TakesUpTo : ℕ → Option (List ℕ) → Option (List ℕ) → Type 0
TakesUpTo most old new = (taken : List ℕ) × Consumes old new taken × (length taken ≤ most)

-- what was given is all of the text before `rest`
abbrev pub GivesBefore : List ℕ → List ℕ → Option (List ℕ) → Option (List ℕ) → Type 0
GivesBefore rest text old new = (given : List ℕ) × (text ≡ given ++ rest) × Appends old new given

-- what was given is a prefix of the text
abbrev pub GivesPrefix : List ℕ → Option (List ℕ) → Option (List ℕ) → Type 0
GivesPrefix text old new = (rest : List ℕ) × GivesBefore rest text old new

-- ---- the same of a watched reader or writer, by the function that shows its bytes

-- what holds of all that a reader has to give
abbrev pub IfInput : {R : Type 0} → (R → Option (List ℕ)) → Watched R → (List ℕ → Type 0) → Type 0
IfInput remaining reader fact = IfSome (remaining (inner_of reader)) fact

-- no more than this many bytes were read
abbrev pub ReadsUpTo : {R : Type 0} → ℕ → (R → Option (List ℕ)) → Watched R → Watched R → Type 0
ReadsUpTo most remaining old new =
    TakesUpTo most (remaining (inner_of old)) (remaining (inner_of new))

-- the text was written
abbrev pub Writes : {W : Type 0} → (W → Option (List ℕ)) → Watched W → Watched W → List ℕ → Type 0
Writes contents old new text = Appends (contents (inner_of old)) (contents (inner_of new)) text

-- a prefix of the text was written
abbrev pub WritesPrefix : {W : Type 0} → (W → Option (List ℕ)) → Watched W → Watched W → List ℕ → Type 0
WritesPrefix contents old new text =
    GivesPrefix text (contents (inner_of old)) (contents (inner_of new))
