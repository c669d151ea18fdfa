-- Whether an entry tells a cell, by its lists.
use Rattle.std.proofs.Common.{ℕ, ◌||◌, ◌⊎◌, inl, inr, Bool, true, false, List, [], ◌∷◌, length, ⊎_elim, refl, arith}
use Rattle.std.specs.Prelude.{nat_lt, IsTrue}
use Rattle.std.proofs.lemmas.Bool.{or_left, or_right}
use Rattle.std.proofs.lemmas.Bool.Decides.{nat_tests}
use Rattle.operations.specs.Operations.{IsIn}
use Rattle.message_format.specs.Messages.{EntryValue}
use Rattle.delta_exchange.specs.Since.{tells_cells}

some_in : {A : Type 0} (xs : List A) (x : A) → IsIn x xs → IsTrue (nat_lt 0 (length xs))
some_in [] x h = absurd h
some_in (y ∷ xs) x h = grind (arith, nat_tests)

one_in : {A : Type 0} (xs : List A) → IsTrue (nat_lt 0 (length xs)) → (x : A) × IsIn x xs
one_in [] h = absurd cc
one_in (x ∷ xs) h = (x, inl refl)

pub either : (a b : Bool) → IsTrue (a || b) → IsTrue a ⊎ IsTrue b
either true b h = inl refl
either false b h = inr h

module _ (e : EntryValue) where
  abbrev has_hits : Bool
  has_hits = nat_lt 0 (length e.hits)

  abbrev has_execs : Bool
  has_execs = nat_lt 0 (length e.execs)

  abbrev has_shifts : Bool
  has_shifts = nat_lt 0 (length e.shifts)

  abbrev has_grants : Bool
  has_grants = nat_lt 0 (length e.grants)

  pub hits_tell : (c : ℕ × ℕ) → IsIn c e.hits → IsTrue (tells_cells e)
  hits_tell c h = or_left has_hits (has_execs || (has_shifts || has_grants)) (some_in e.hits c h)

  pub execs_tell : (c : ℕ × ℕ × ℕ) → IsIn c e.execs → IsTrue (tells_cells e)
  execs_tell c h = or_right has_hits (has_execs || (has_shifts || has_grants))
      (or_left has_execs (has_shifts || has_grants) (some_in e.execs c h))

  pub shifts_tell : (c : ℕ × ℕ × ℕ × ℕ) → IsIn c e.shifts → IsTrue (tells_cells e)
  shifts_tell c h = or_right has_hits (has_execs || (has_shifts || has_grants))
      (or_right has_execs (has_shifts || has_grants) (or_left has_shifts has_grants (some_in e.shifts c h)))

  pub grants_tell : (c : ℕ × ℕ × ℕ) → IsIn c e.grants → IsTrue (tells_cells e)
  grants_tell c h = or_right has_hits (has_execs || (has_shifts || has_grants))
      (or_right has_execs (has_shifts || has_grants) (or_right has_shifts has_grants (some_in e.grants c h)))

  -- a cell of one of the four lists
  abbrev pub HasCell : Type 0
  HasCell = ((c : ℕ × ℕ) × IsIn c e.hits) ⊎ (((c : ℕ × ℕ × ℕ) × IsIn c e.execs)
      ⊎ (((c : ℕ × ℕ × ℕ × ℕ) × IsIn c e.shifts) ⊎ ((c : ℕ × ℕ × ℕ) × IsIn c e.grants)))

  pub cell_told : IsTrue (tells_cells e) → HasCell
  cell_told t = ⊎_elim
      (λ a. inl (one_in e.hits a))
      (λ b. inr (⊎_elim
      (λ a. inl (one_in e.execs a))
      (λ c. inr (⊎_elim (λ a. inl (one_in e.shifts a)) (λ a. inr (one_in e.grants a)) (either has_shifts has_grants c)))
      (either has_execs (has_shifts || has_grants) b)))
      (either has_hits (has_execs || (has_shifts || has_grants)) t)
