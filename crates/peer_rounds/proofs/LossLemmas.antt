-- Whether a loss was met.
use Rattle.std.proofs.Common.{◌≡◌, Option, Some, None, MatchOption, IsSomeAnd, is_some, ap, refl}

-- what shows it is there where it was met
pub met_is : {A B : Type 0} (P : B → Type 0) (o : Option A) (r : Option B) →
    MatchOption o (r ≡ None) (λ _. IsSomeAnd r P) → is_some r ≡ is_some o
met_is P None r is = ap is_some is
met_is P (Some a) (Some b) is = refl
met_is P (Some a) None is = absurd is
