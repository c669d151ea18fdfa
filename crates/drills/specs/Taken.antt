-- What is taken of a reader whose bytes are known.
use Rattle.std.specs.Prelude.{◌≡◌, ℕ, Bool, true, false, List, [], ◌∷◌, Option, Some, IfSome}
use Rattle.std.specs.declared.alloc.Global.{Global}
use Rattle.std.specs.declared.io.buffered.BufReader.{BufReader}
use Rattle.std.specs.Io.Buffered.{reader_remaining}
use Rattle.streams.specs.declared.watched.Watched.{Watched}
use Rattle.streams.specs.Watched.{inner_of}
use Rattle.drills.specs.Drills.{lines_in}

abbrev pub bytes_left : {I : Type 0} → (I → Option (List ℕ)) → BufReader (Watched I) Global → Option (List ℕ)
bytes_left remaining reader = reader_remaining (λ watched. remaining (inner_of watched)) reader

-- what holds of all bytes that it has to give
abbrev pub IfBytes : {I : Type 0} → (I → Option (List ℕ)) → BufReader (Watched I) Global → (List ℕ → Type 0) → Type 0
IfBytes remaining reader fact = IfSome (bytes_left remaining reader) fact

-- a line is the first, if there is one, and the others are left
abbrev pub IsFirst : Bool → List ℕ → List ℕ → Option (List ℕ) → Type 0
IsFirst true line bytes left = (rest : List ℕ) × (left ≡ Some rest) × (lines_in bytes ≡ line ∷ lines_in rest)
IsFirst false line bytes left = bytes ≡ []

abbrev pub TakesLine : {I : Type 0} → (I → Option (List ℕ)) → BufReader (Watched I) Global →
    BufReader (Watched I) Global → Bool → List ℕ → Type 0
TakesLine remaining old new more line =
    IfBytes remaining old (λ bytes. IsFirst more line bytes (bytes_left remaining new))
