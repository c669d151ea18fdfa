-- What is taken of a reader of lines that newlines end.
use Rattle.std.specs.Prelude.{◌≡◌, ℕ, List, [], ◌∷◌, Option, Some}
use Rattle.std.specs.declared.alloc.Global.{Global}
use Rattle.std.specs.declared.io.buffered.BufReader.{BufReader}
use Rattle.streams.specs.declared.watched.Watched.{Watched}
use Rattle.drills.specs.declared.part_reader.Next.{Next}
use Rattle.drills.specs.declared.part_reader.Next.TheVariants.{Line, End}
use Rattle.drills.specs.Parts.{ended_in, is_cut}
use Rattle.drills.specs.Taken.{IfBytes, bytes_left}

-- a line that a newline ends, and the others are left; or none is left, and perhaps one that none ends
abbrev pub IsNext : Next → List ℕ → List ℕ → Option (List ℕ) → Type 0
IsNext Line line bytes left =
    (rest : List ℕ) × (left ≡ Some rest) × (ended_in bytes ≡ line ∷ ended_in rest) × (is_cut bytes ≡ is_cut rest)
IsNext (End cut) line bytes left = (ended_in bytes ≡ []) × (cut ≡ is_cut bytes)

abbrev pub TakesNext : {I : Type 0} → (I → Option (List ℕ)) → BufReader (Watched I) Global →
    BufReader (Watched I) Global → Next → List ℕ → Type 0
TakesNext remaining old new next line =
    IfBytes remaining old (λ bytes. IsNext next line bytes (bytes_left remaining new))
