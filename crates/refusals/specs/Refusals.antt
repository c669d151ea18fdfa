-- Which refusal is the answer. The faults may be of any type F.
use Rattle.std.specs.Prelude.{◌≡◌, Bool, List, [], ◌∷◌, Option, Some, None, Result, Ok, Err}
use Rattle.std.specs.Bool.{OnFalse}

-- of refusals that stand in their order, the first that applies
abbrev pub first_fault : {F : Type 0} → List (Option F) → Option F
first_fault [] = None
first_fault (Some fault ∷ rest) = Some fault
first_fault (None ∷ rest) = first_fault rest

-- a step, and then one that takes what the first one gave. Where the first is refused, so are both
infixl 10 ◌>>=◌
abbrev pub ◌>>=◌ : {F A B : Type 0} → Result A F → (A → Result B F) → Result B F
(Ok x) >>= f = f x
(Err fault) >>= f = Err fault

-- What a function returned, against what a definition reads. A definition knows no out of memory: a function that met
-- it says nothing of what is read. `is_out_of_memory` tells such faults.
module _ {F : Type 0} (is_out_of_memory : F → Bool) where
  -- what is read is this fault, unless memory was refused
  abbrev pub FailsUnless : {Y : Type 0} → F → Result Y F → Type 0
  FailsUnless fault read = OnFalse (is_out_of_memory fault) (read ≡ Err fault)

  -- what is read is what the function returned, seen by `view`, unless memory was refused
  abbrev pub GivesUnless : {X Y : Type 0} → (X → Y) → Result X F → Result Y F → Type 0
  GivesUnless view (Ok x) read = read ≡ Ok (view x)
  GivesUnless view (Err fault) read = FailsUnless fault read
