-- Texts that are appended one after the other.
use Rattle.std.proofs.Common.{◌≡◌, ℕ, List, ◌++◌, cond, ap, ◌∙◌, append_assoc}
use Rattle.std.specs.Prelude.{Result, Ok, Err, OnOk, is_ok}

-- a text behind another, or a list
pub also : {A : Type 0} (old mid new a b : List A) → mid ≡ old ++ a → new ≡ mid ++ b → new ≡ old ++ (a ++ b)
also old mid new a b first next = next ∙ ap (λ text. text ++ b) first ∙ append_assoc old a b

-- the last one, by a call that may fail
pub lastly : {T E : Type 0} (r : Result T E) (old mid new a b : List ℕ) → mid ≡ old ++ a →
    OnOk r (new ≡ mid ++ b) → OnOk r (new ≡ old ++ (a ++ b))
lastly (Ok x) old mid new a b first next = also old mid new a b first next
lastly (Err e) old mid new a b first next = next

-- the same, by `push_str`
pub pushed : {T E : Type 0} (r : Result T E) (old mid new a b : List ℕ) → mid ≡ old ++ a →
    new ≡ cond (is_ok r) (mid ++ b) mid → OnOk r (new ≡ old ++ (a ++ b))
pushed (Ok x) old mid new a b first next = also old mid new a b first next
pushed (Err e) old mid new a b first next = tt
