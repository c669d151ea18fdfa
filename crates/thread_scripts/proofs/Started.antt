-- What gossip came to, by whether the workers had a thread beside it.
use Rattle.std.proofs.Common.{Result, Ok, Err, inl, inr}
use Rattle.std.specs.Prelude.{◌⊎◌, MatchResult}

pub either_way : {H G : Type 0} (r : Result H G) (A B : Type 0) → MatchResult r (λ h. A) (λ e. B) → A ⊎ B
either_way (Ok h) A B is = inl is
either_way (Err e) A B is = inr is
