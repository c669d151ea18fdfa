-- What is so of each element of a list by its number.
use Rattle.std.proofs.Common.{◌≡◌, ℕ, suc, ◌+◌, ◌<◌, List, [], ◌∷◌, ◌++◌, length, sym, subst, arith}
use Rattle.std.specs.Prelude.{slice_index_or, IfOk, OnOk, Result, Ok, Err}
use Rattle.thread_scripts.specs.Plays.{AllFrom}

-- one more at the end
pub AllFrom-push : {A : Type 0} (P : ℕ → A → Type 0) (n : ℕ) (xs : List A) (x : A) → AllFrom P n xs →
    P (n + length xs) x → AllFrom P n (xs ++ x ∷ [])
AllFrom-push P n [] x h is = let here : n + 0 ≡ n = omega arith in (subst (λ k. P k x) here is, tt)
AllFrom-push P n (y ∷ xs) x h is =
    let here : n + length (y ∷ xs) ≡ n + 1 + length xs = omega arith in
    (h.0, AllFrom-push P (n + 1) xs x h.1 (subst (λ k. P k x) here is))

-- a call for each of a list's elements, and what they return
pub AllFrom-returned : {J R : Type 0} (P : ℕ → J → Type 0) (Q : ℕ → R → Type 0) (C : J → R → Type 0)
    → ((n : ℕ) (j : J) (r : R) → P n j → C j r → Q n r) → (n : ℕ) (js : List J) (rs : List R) → length rs ≡ length js →
    AllFrom P n js
    → ((i : ℕ) (d : R) → i < length js → (j : J) × ((e : J) → slice_index_or js i e ≡ j) × C j
    (slice_index_or rs i d)) → AllFrom Q n rs
AllFrom-returned P Q C step n js [] long h each = tt
AllFrom-returned P Q C step n [] (r ∷ rs) long h each = absurd (omega (arith, long))
AllFrom-returned P Q C step n (j ∷ js) (r ∷ rs) long h each =
    let first = each 0 r (omega arith) in
    let here : C j r = subst (λ x. C x r) (sym (first.1 j)) first.2 in (
      step n j r h.0 here,
      AllFrom-returned P Q C step (n + 1) js rs (omega (arith, long)) h.1
          (λ i d below. each (suc i) d (omega (arith, below))),
    )

-- two facts of an answer give a third
pub IfOk-both : {T E : Type 0} (r : Result T E) (A B Q : T → Type 0) → ((x : T) → A x → B x → Q x) → IfOk r A →
    IfOk r B → IfOk r Q
IfOk-both (Ok x) A B Q both a b = both x a b
IfOk-both (Err e) A B Q both a b = tt

-- three facts of an answer are one
pub IfOk-three : {T E : Type 0} (r : Result T E) (A B C : T → Type 0) → IfOk r A → IfOk r B → IfOk r C →
    IfOk r (λ x. A x × B x × C x)
IfOk-three (Ok x) A B C a b c = (a, b, c)
IfOk-three (Err e) A B C a b c = tt

-- a fact of an answer gives another
pub IfOk-map : {T E : Type 0} (r : Result T E) (A Q : T → Type 0) → ((x : T) → A x → Q x) → IfOk r A → IfOk r Q
IfOk-map (Ok x) A Q then a = then x a
IfOk-map (Err e) A Q then a = tt

-- what follows from a fact that holds where there is an answer
pub OnOk-map : {T E : Type 0} (r : Result T E) (A B : Type 0) → (A → B) → OnOk r A → OnOk r B
OnOk-map (Ok x) A B then a = then a
OnOk-map (Err e) A B then a = tt
