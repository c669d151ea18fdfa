use Rattle.std.proofs.Common.{◌≡◌, ℕ, List}
use Rattle.std.specs.Cmp.Lexicographic.{slice_cmp}
use Rattle.std.specs.Ordering.{nat_cmp}
use Rattle.actions.proofs.actions.ActionsOrd.cmp.Goals as goal

compared : {R : Type 0} (f : List ℕ → List ℕ → R) (a b x y : List ℕ) (r : R) → r ≡ f a b → a ≡ x → b ≡ y → r ≡ f x y
compared f a b x y r h e k = rw (← e, ← k) h

pub returns : goal.returns
returns c = compared (slice_cmp nat_cmp) _ _ _ _ _ c.cmp.ensures c.spelled.ensures.canonical
    c.spelled-2.ensures.canonical
