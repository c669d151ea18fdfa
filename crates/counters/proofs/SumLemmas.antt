-- Sums over the numbers below n.
use Rattle.std.proofs.Common.{◌≡◌, ◌≢◌, ℕ, ◌+◌, ◌<◌, ◌≤◌, ◌==◌, zero, suc, Bool, true, false, cond, refl, sym, ◌∙◌, ap, arith, ⊎_elim}
use Rattle.std.proofs.lemmas.Bool.{eqb-true, eqb-false, cases_eq}
use Rattle.std.specs.Prelude.{ℤ, pos, ◌+ℤ◌}
use Rattle.counters.specs.Sums.{sum_below, sum_others, int_sum_below}

pub sum-same : (n : ℕ) (f g : ℕ → ℕ) → ((i : ℕ) → i < n → f i ≡ g i) → sum_below n f ≡ sum_below n g
sum-same zero f g h = refl
sum-same (suc n) f g h =
    let rest = sum-same n f g (λ i l. h i (omega arith)) in
    let here = h n (omega arith) in
    omega arith

-- one place more
pub sum-next : (n : ℕ) (f : ℕ → ℕ) → sum_below (n + 1) f ≡ f n + sum_below n f
sum-next n f = ap (λ k. sum_below k f) (let one : n + 1 ≡ suc n = omega arith in one)

pub sum-le : (n : ℕ) (f g : ℕ → ℕ) → ((i : ℕ) → f i ≤ g i) → sum_below n f ≤ sum_below n g
sum-le zero f g h = omega arith
sum-le (suc n) f g h =
    let rest = sum-le n f g h in
    let here = h n in
    omega arith

pub sum-add : (n : ℕ) (f g : ℕ → ℕ) → sum_below n (λ i. f i + g i) ≡ sum_below n f + sum_below n g
sum-add zero f g = refl
sum-add (suc n) f g =
    let rest = sum-add n f g in
    omega arith

pub sum-zero : (n : ℕ) (f : ℕ → ℕ) → ((i : ℕ) → f i ≡ 0) → sum_below n f ≡ 0
sum-zero zero f h = refl
sum-zero (suc n) f h =
    let rest = sum-zero n f h in
    let here = h n in
    omega arith

-- a sum in which one place alone counts
pub sum-one : (n : ℕ) (f : ℕ → ℕ) (k m : ℕ) → ((i : ℕ) → i ≢ k → f i ≡ 0) → f k ≤ m → sum_below n f ≤ m
sum-one zero f k m h l = omega arith
sum-one (suc n) f k m h l = ⊎_elim
    (λ e.
    let rest : sum_below n f ≡ 0 = sum-same n f (λ i. 0) (λ i b. h i (omega arith)) ∙ sum-zero n (λ i. 0) (λ i. refl) in
    let here : f n ≡ f k = ap f e in
    omega arith)
    (λ ne.
    let rest = sum-one n f k m h l in
    let here = h n ne in
    omega arith)
    (cases_eq n k)

-- the one place counts exactly, where it is below n
pub sum-at : (n : ℕ) (k m : ℕ) → k < n → sum_below n (λ i. cond (i == k) m 0) ≡ m
sum-at zero k m h = absurd (omega arith)
sum-at (suc n) k m h = ⊎_elim
    (λ e.
    let rest : sum_below n (λ i. cond (i == k) m 0) ≡ 0 = sum-same n _ (λ i. 0)
    (λ i b. at i (i == k) refl (omega arith)) ∙ sum-zero n (λ i. 0) (λ i. refl) in
    let here : cond (n == k) m 0 ≡ m = is n (n == k) refl e in
    omega arith)
    (λ ne.
    let rest = sum-at n k m (omega arith) in
    let here : cond (n == k) m 0 ≡ 0 = at n (n == k) refl ne in
    omega arith)
    (cases_eq n k)
  where
    at : (i : ℕ) (b : Bool) → (i == k) ≡ b → (i ≡ k → ⊥) → cond b m 0 ≡ 0
    at i true e ne = absurd (ne (eqb-true i k e))
    at i false e ne = refl

    is : (i : ℕ) (b : Bool) → (i == k) ≡ b → i ≡ k → cond b m 0 ≡ m
    is i true e same = refl
    is i false e same = absurd (eqb-false i k e same)

pub sum-swap : (n m : ℕ) (f : ℕ → ℕ → ℕ) → sum_below n (λ i. sum_below m (λ j. f i j)) ≡ sum_below m
    (λ j. sum_below n (λ i. f i j))
sum-swap zero m f = sym (sum-zero m (λ j. 0) (λ j. refl))
sum-swap (suc n) m f =
    let rest = sum-swap n m f in
    let split = sum-add m (f n) (λ j. sum_below n (λ i. f i j)) in
    omega arith

-- leaving out a place that is zero changes nothing
pub sum_others-is : (n i : ℕ) (f : ℕ → ℕ) → f i ≡ 0 → sum_others n i f ≡ sum_below n f
sum_others-is n i f h = sum-same n _ f (λ j l. at j (j == i) refl)
  where
    at : (j : ℕ) (b : Bool) → (j == i) ≡ b → cond b 0 (f j) ≡ f j
    at j true e = sym (ap f (eqb-true j i e) ∙ h)
    at j false e = refl

pub sum_others-le : (n i : ℕ) (f g : ℕ → ℕ) → ((j : ℕ) → f j ≤ g j) → sum_others n i f ≤ sum_others n i g
sum_others-le n i f g h = sum-le n _ _ (λ j. at j (j == i))
  where
    at : (j : ℕ) (b : Bool) → cond b 0 (f j) ≤ cond b 0 (g j)
    at j true = omega arith
    at j false = h j

pub sum_others-add : (n i : ℕ) (f g : ℕ → ℕ) → sum_others n i (λ j. f j + g j) ≡ sum_others n i f + sum_others n i g
sum_others-add n i f g = sum-same n _ (λ j. cond (j == i) 0 (f j) + cond (j == i) 0 (g j)) (λ j l. at j (j == i)) ∙
    sum-add n _ _
  where
    at : (j : ℕ) (b : Bool) → cond b 0 (f j + g j) ≡ cond b 0 (f j) + cond b 0 (g j)
    at j true = refl
    at j false = refl

pub sum_others-same : (n i : ℕ) (f g : ℕ → ℕ) → ((j : ℕ) → f j ≡ g j) → sum_others n i f ≡ sum_others n i g
sum_others-same n i f g h = sum-same n _ _ (λ j l. ap (λ x. cond (j == i) 0 x) (h j))

pub sum_others-at_most : (n i : ℕ) (f : ℕ → ℕ) (k m : ℕ) → ((j : ℕ) → j ≢ k → f j ≡ 0) → f k ≤ m → sum_others n i f ≤ m
sum_others-at_most n i f k m h l = sum-one n _ k m (λ j ne. at j (j == i) (h j ne)) (one (k == i))
  where
    at : (j : ℕ) (b : Bool) → f j ≡ 0 → cond b 0 (f j) ≡ 0
    at j true e = refl
    at j false e = e

    one : (b : Bool) → cond b 0 (f k) ≤ m
    one true = omega arith
    one false = l

-- a sum of naturals in the integers
pub int_sum-pos : (n : ℕ) (z : ℕ → ℤ) (f : ℕ → ℕ) → ((i : ℕ) → z i ≡ pos (f i)) →
    int_sum_below n z ≡ pos (sum_below n f)
int_sum-pos zero z f h = refl
int_sum-pos (suc n) z f h = λ i. h n i +ℤ int_sum-pos n z f h i

pub sum_others-zero : (n i : ℕ) (f : ℕ → ℕ) → ((j : ℕ) → f j ≡ 0) → sum_others n i f ≡ 0
sum_others-zero n i f h =
    let here = h 0 in
    let most : sum_others n i f ≤ 0 = sum_others-at_most n i f 0 0 (λ j ne. h j) (omega arith) in
    omega arith

-- a place and the others are all
pub sum_others-and : (n i : ℕ) (f : ℕ → ℕ) → i < n → sum_below n f ≡ f i + sum_others n i f
sum_others-and n i f h =
    sum-same n f (λ j. cond (j == i) (f i) 0 + cond (j == i) 0 (f j)) (λ j l. at j (j == i) refl)
    ∙ sum-add n (λ j. cond (j == i) (f i) 0) (λ j. cond (j == i) 0 (f j))
    ∙ ap (λ m. m + sum_others n i f) (sum-at n i (f i) h)
  where
    at : (j : ℕ) (b : Bool) → (j == i) ≡ b → f j ≡ cond b (f i) 0 + cond b 0 (f j)
    at j true e =
        let here : f j ≡ f i = ap f (eqb-true j i e) in
        omega arith
    at j false e = omega arith

-- what is zero from n on adds nothing
pub sum-narrow : (n m : ℕ) (f : ℕ → ℕ) → n ≤ m → ((i : ℕ) → n ≤ i → f i ≡ 0) → sum_below m f ≡ sum_below n f
sum-narrow n zero f l h = ap (λ k. sum_below k f) (let z : 0 ≡ n = omega arith in z)
sum-narrow n (suc m) f l h = ⊎_elim
    (λ e. ap (λ k. sum_below k f) (sym e))
    (λ ne.
    let rest = sum-narrow n m f (omega arith) h in
    let here = h m (omega arith) in
    omega arith)
    (cases_eq n (suc m))

-- a sum of which one place changed
pub sum-but-one : (n k : ℕ) (f g : ℕ → ℕ) → k < n → ((i : ℕ) → (i ≡ k → ⊥) → g i ≡ f i) →
    sum_below n g + f k ≡ sum_below n f + g k
sum-but-one zero k f g low h = absurd (omega arith)
sum-but-one (suc n) k f g low h = ⊎_elim
    (λ e.
    let rest = sum-same n g f (λ i less. h i (λ same. omega (arith, same, less, e))) in
    let here : g n ≡ g k = ap g e in
    let was : f n ≡ f k = ap f e in
    omega arith)
    (λ ne.
    let rest = sum-but-one n k f g (omega (arith, low, ne)) h in
    let here = h n ne in
    omega arith)
    (cases_eq n k)
