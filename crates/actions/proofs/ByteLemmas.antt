-- Where a byte stands first in a list, and steps of reading that did not fail.
use Rattle.std.proofs.Common.{◌≡◌, ℕ, ◌+◌, ◌<◌, Bool, true, false, cond, eqb, not, List, [], ◌∷◌, ◌++◌, length, get_or, drop, Option, Some, None, Ok, refl, sym, ap, ◌∙◌, arith, append_assoc, length-append}
use Rattle.std.specs.Prelude.{ok_or}
use Rattle.std.specs.List.{list_all, position_or_len}
use Rattle.std.proofs.lemmas.Bool.{eq-eqb, ne_eqb, eqb-true, and_parts, and_from, ltb-true, lt-ltb, le-ltb}
use Rattle.std.proofs.lemmas.List.{take_at, drop_at, length_push}
use Rattle.std.proofs.lemmas.List.Sums.{split_at_first, passes_at_first}
use Rattle.actions.specs.Bytes.{has_byte, text_before, text_after}

-- ---- steps that did not fail

-- either branch of a choice
pub branch : {A P : Type 0} (b : Bool) (x y z : A) → (b ≡ true → x ≡ z → P) → (b ≡ false → y ≡ z → P) → cond b x y ≡ z
    → P
branch true x y z f g e = f refl e
branch false x y z f g e = g refl e

pub refuse_ok : {F A : Type 0} (d : F) (o : Option A) (y : A) → ok_or o d ≡ Ok y → o ≡ Some y
refuse_ok d (Some x) y e = cc
refuse_ok d None y e = absurd cc

-- ---- a byte that is not there

abbrev pub lacks : ℕ → List ℕ → Bool
lacks c xs = list_all (λ b. not (eqb b c)) xs

pub lacks-append : (c : ℕ) (xs ys : List ℕ) → lacks c xs ≡ true → lacks c ys ≡ true → lacks c (xs ++ ys) ≡ true
lacks-append c [] ys h k = k
lacks-append c (x ∷ xs) ys h k =
    let a =
    and_parts (not (eqb x c)) (lacks c xs) h in and_from (not (eqb x c)) (lacks c (xs ++ ys)) a.0
    (lacks-append c xs ys a.1 k)

differ : (p : ℕ → Bool) (b c : ℕ) → p b ≡ true → p c ≡ false → not (eqb b c) ≡ true
differ p b c there never = ap not (ne_eqb b c (λ e. let same : p b ≡ p c = ap p e in cc))

-- where each byte passes a test that c fails
pub lacks_from : (p : ℕ → Bool) (c : ℕ) (xs : List ℕ) → p c ≡ false → list_all p xs ≡ true → lacks c xs ≡ true
lacks_from p c [] never h = refl
lacks_from p c (x ∷ xs) never h =
    let a =
    and_parts (p x) (list_all p xs) h in and_from (not (eqb x c)) (lacks c xs) (differ p x c a.0 never)
    (lacks_from p c xs never a.1)

-- ---- its first place

abbrev place : ℕ → List ℕ → ℕ
place c xs = position_or_len (λ b. eqb b c) xs

place_at : (c : ℕ) (xs ys : List ℕ) → lacks c xs ≡ true → place c (xs ++ c ∷ ys) ≡ length xs
place_at c [] ys h = rw (eq-eqb c c refl) refl
place_at c (x ∷ xs) ys h =
    let a = and_parts (not (eqb x c)) (lacks c xs) h in rw a.0 (omega (arith, place_at c xs ys a.1))

place_none : (c : ℕ) (xs : List ℕ) → lacks c xs ≡ true → place c xs ≡ length xs
place_none c [] h = refl
place_none c (x ∷ xs) h =
    let a = and_parts (not (eqb x c)) (lacks c xs) h in rw a.0 (omega (arith, place_none c xs a.1))

pub has_none : (c : ℕ) (xs : List ℕ) → lacks c xs ≡ true → has_byte c xs ≡ false
has_none c xs h = le-ltb (place c xs) (length xs) (omega (arith, place_none c xs h))

pub has_at : (c : ℕ) (xs ys : List ℕ) → lacks c xs ≡ true → has_byte c (xs ++ c ∷ ys) ≡ true
has_at c xs ys h =
    lt-ltb (place c (xs ++ c ∷ ys)) (length (xs ++ c ∷ ys)) (omega
    (arith, place_at c xs ys h, length-append xs (c ∷ ys)))

pub before_at : (c : ℕ) (xs ys : List ℕ) → lacks c xs ≡ true → text_before c (xs ++ c ∷ ys) ≡ xs
before_at c xs ys h = rw (place_at c xs ys h) (take_at xs (c ∷ ys) (length xs) refl)

pub after_at : (c : ℕ) (xs ys : List ℕ) → lacks c xs ≡ true → text_after c (xs ++ c ∷ ys) ≡ ys
after_at c xs ys h =
    rw (place_at c xs ys h) (ap (drop (length xs + 1)) (sym (append_assoc xs (c ∷ []) ys)) ∙ drop_at (xs ++ c ∷ []) ys
    (length xs + 1) (length_push xs c))

-- a list with the byte is what stands before its first, the byte, and what follows
pub parts_at : (c : ℕ) (xs : List ℕ) → has_byte c xs ≡ true → xs ≡ text_before c xs ++ c ∷ text_after c xs
parts_at c xs h =
    let lt : place c xs < length xs = ltb-true (place c xs) (length xs) h in
    let it : get_or xs (place c xs) 0 ≡ c =
    eqb-true (get_or xs (place c xs) 0) c (passes_at_first (λ b. eqb b c) xs 0 lt) in
    split_at_first (λ b. eqb b c) xs 0 lt ∙ ap (λ (x : ℕ). text_before c xs ++ x ∷ text_after c xs) it
