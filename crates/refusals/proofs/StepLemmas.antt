-- Steps that weren't refused, and refusals that are passed on.
use Rattle.std.proofs.Common.{◌≡◌, Bool, true, false, Result, Ok, Err, refl}
use Rattle.std.specs.Bool.{OnFalse}
use Rattle.refusals.specs.Refusals.{◌>>=◌, FailsUnless}

-- both steps gave something
pub bind_ok : {F A B : Type 0} (r : Result A F) (f : A → Result B F) (y : B) → (r >>= f) ≡ Ok y
    → (x : A) × (r ≡ Ok x) × (f x ≡ Ok y)
bind_ok (Ok x) f y e = (x, refl, e)
bind_ok (Err d) f y e = absurd cc

-- a step that gives, of faults of this type
abbrev pub gives : (F : Type 0) {A : Type 0} → A → Result A F
gives F x = Ok x

pub ok_is : {F A : Type 0} (x y : A) → gives F x ≡ gives F y → x ≡ y
ok_is x y e = cc

pub err_is_ok : {F A P : Type 0} (d : F) (y : A) → Err d ≡ gives F y → P
err_is_ok d y e = absurd cc

-- one reading fails as another does, where it passes each fault on
pub fails_along : {F A B : Type 0} (is_out_of_memory : F → Bool) (e : F) (first : Result A F) (whole : Result B F)
    → ((f : F) → first ≡ Err f → whole ≡ Err f) → FailsUnless is_out_of_memory e first →
    FailsUnless is_out_of_memory e whole
fails_along is_out_of_memory e first whole passed h = by_test (is_out_of_memory e) h
  where
    by_test : (b : Bool) → OnFalse b (first ≡ Err e) → OnFalse b (whole ≡ Err e)
    by_test true h = tt
    by_test false h = passed e h
