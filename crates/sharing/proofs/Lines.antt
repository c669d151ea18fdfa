-- A line with one node more, and who waits.
use Rattle.std.proofs.Common.{◌≡◌, ◌≢◌, ◌≤◌, ℕ, zero, suc, ◌+◌, ◌<◌, Bool, true, false, cond, List, [], ◌∷◌, ◌++◌, length, take, get_or, refl, ◌∙◌, ap, arith}
use Rattle.std.proofs.Math.Dec.{eqb-suc-zero}
use Rattle.std.specs.Prelude.{ℤ, pos, ◌≤ℤ◌, ◌<ℤ◌, ◌==◌, ◌&&◌, nat_lt, not}
use Rattle.std.specs.Prelude.{Vec, vec_len}
use Rattle.std.specs.Int.{int_gap}
use Rattle.std.specs.List.{filter}
use Rattle.std.proofs.lemmas.Int.{ints}
use Rattle.std.proofs.lemmas.Grind.{fold-append}
use Rattle.std.proofs.lemmas.List.Elements.{filter_more}
use Rattle.std.proofs.lemmas.List.{append-nil, take_more}
use Rattle.std.proofs.lemmas.Bool.Decides.{nat_tests}
use Rattle.sharing.specs.Shares.{line_of, placed, shares_in}

pub no_right : (r : ℤ) → r ≤ℤ pos 0 → (int_gap (pos 0) r == 0) ≡ true
no_right r h = grind (arith, ints)

pub some_right : (r : ℤ) → pos 0 <ℤ r → (int_gap (pos 0) r == 0) ≡ false
some_right r h = grind (arith, ints)

pub line_more : (e : ℕ → ℕ) (p : ℕ → Bool) (xs : List ℕ) (i : ℕ) → i < length xs → p (get_or xs i 0) ≡ true →
    line_of e (filter p (take (i + 1) xs)) ≡ placed e (line_of e (filter p (take i xs))) (get_or xs i 0)
line_more e p xs i h k =
    ap (line_of e) (filter_more p xs i 0 h ∙ ap (λ b. filter p (take i xs) ++ cond b (get_or xs i 0 ∷ []) []) k)
    ∙ fold-append (placed e) [] (filter p (take i xs)) (get_or xs i 0 ∷ [])

pub line_same : (e : ℕ → ℕ) (p : ℕ → Bool) (xs : List ℕ) (i : ℕ) → i < length xs → p (get_or xs i 0) ≡ false →
    line_of e (filter p (take (i + 1) xs)) ≡ line_of e (filter p (take i xs))
line_same e p xs i h k =
    ap (line_of e) (filter_more p xs i 0 h ∙ ap (λ b. filter p (take i xs) ++ cond b (get_or xs i 0 ∷ []) []) k
    ∙ append-nil (filter p (take i xs)))

pub line_next : (e : ℕ → ℕ) (xs : List ℕ) (i : ℕ) → i < length xs →
    line_of e (take (i + 1) xs) ≡ placed e (line_of e (take i xs)) (get_or xs i 0)
line_next e xs i h = ap (line_of e) (take_more xs i 0 h) ∙ fold-append (placed e) [] (take i xs) (get_or xs i 0 ∷ [])

-- tests that passed, and tests that didn't
pub is_more : (a b x y : ℕ) → x ≡ a → y ≡ b → x < y → nat_lt a b ≡ true
is_more a b x y e f h = grind (arith, nat_tests)

pub no_more : (a b : ℕ) → b ≤ a → nat_lt a b ≡ false
no_more a b h = grind (arith, nat_tests)

pub has_passed_test : (other node before now x y : ℕ) → other ≢ node → x ≡ before → y ≡ now → x < y →
    (not (other == node) && nat_lt before now) ≡ true
has_passed_test other node before now x y differs e f h = grind (arith, nat_tests)

pub is_itself : (other node before now : ℕ) → other ≡ node → (not (other == node) && nat_lt before now) ≡ false
is_itself other node before now same = grind (arith, nat_tests)

pub is_quiet : (other node before now x y : ℕ) → x ≡ before → y ≡ now → y ≤ x →
    (not (other == node) && nat_lt before now) ≡ false
is_quiet other node before now x y e f h = grind (arith, nat_tests)

pub nobody : (xs : List ℕ) → true ≡ (length xs == 0) → xs ≡ []
nobody [] h = refl
nobody (x ∷ xs) h = let e : true ≡ false = h ∙ eqb-suc-zero (length xs) in cc

pub nobody_in : {A : Type 0} (xs : Vec ℕ A) → true ≡ (vec_len xs == 0) → xs.items ≡ []
nobody_in xs h = nobody xs.items (h ∙ ap (λ n. n == 0) xs.ok.0)

pub nobody_served : (name : List ℕ) (term spare : ℕ) → shares_in name term spare [] ≡ []
nobody_served name term zero = refl
nobody_served name term (suc spare) = refl

pub none_spared : (name : List ℕ) (term spare : ℕ) (line : List ℕ) → spare ≡ 0 → shares_in name term spare line ≡ []
none_spared name term spare line e = ap (λ s. shares_in name term s line) e
