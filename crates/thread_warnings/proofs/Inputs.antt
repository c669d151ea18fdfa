-- What holds of a script that was read, and of what is said of it.
use Rattle.std.proofs.Common.{◌≡◌, ℕ, List, Option, Some, None, Result, Ok, Err, subst}
use Rattle.std.specs.Prelude.{IfSome, OnOk}

-- it holds of the input
pub in_input : (P : List ℕ → Type 0) (script : List ℕ) (input : Option (List ℕ))
    → IfSome input (λ bytes. script ≡ bytes) → P script → IfSome input P
in_input P script None same h = tt
in_input P script (Some bytes) same h = subst P same h

pub on_input : {T E : Type 0} (P : List ℕ → Type 0) (script : List ℕ) (result : Result T E) (input : Option (List ℕ))
    → IfSome input (λ bytes. script ≡ bytes) → OnOk result (P script) → OnOk result (IfSome input P)
on_input P script (Err fault) input same h = tt
on_input P script (Ok done) input same h = in_input P script input same h
