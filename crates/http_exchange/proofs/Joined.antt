-- Bytes from which a beginning was cut off, or couldn't be.
use Rattle.std.proofs.Common.{◌≡◌, ◌++◌, ◌∙◌, ap, sym, ℕ, List, Bool, true, false, refl}
use Rattle.std.specs.Prelude.{bytes_eq}
use Rattle.std.proofs.lemmas.Bool.Decides.{same_from_decides}
use Rattle.std.proofs.lemmas.List.{append_cancel_left}
use Rattle.std.proofs.lemmas.Slice.Eq.{bytes_eq-Decides}

pub joined-rest : (bytes start rest end : List ℕ) → bytes ≡ start ++ rest →
    bytes_eq rest end ≡ bytes_eq bytes (start ++ end)
joined-rest bytes start rest end is =
    let same = bytes_eq-Decides rest end in
    same_from_decides (bytes_eq rest end) (bytes_eq bytes (start ++ end))
    (λ t. is ∙ ap (λ x. start ++ x) (same.0 t), λ e. same.1 (append_cancel_left start rest end (sym is ∙ e)))
    (bytes_eq-Decides bytes (start ++ end))

other-from : (bytes joined : List ℕ) → ¬ (bytes ≡ joined) → (b : Bool) → bytes_eq bytes joined ≡ b → false ≡ b
other-from bytes joined isnt true e = absurd (isnt ((bytes_eq-Decides bytes joined).0 e))
other-from bytes joined isnt false e = refl

pub joined-none : (bytes start end : List ℕ) → ((rest : List ℕ) → ¬ (bytes ≡ start ++ rest)) →
    false ≡ bytes_eq bytes (start ++ end)
joined-none bytes start end none = other-from bytes (start ++ end) (none end) (bytes_eq bytes (start ++ end)) refl
