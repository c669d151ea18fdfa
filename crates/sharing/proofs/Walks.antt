-- What a walk finds and tells with one element more.
use Rattle.std.proofs.Common.{◌≡◌, ℕ, zero, suc, ◌+◌, Bool, true, false, cond, List, [], ◌∷◌, ◌++◌, map, Option, None, Some, option_map, refl, sym, ◌∙◌, ap, arith, append_assoc, add-one}
use Rattle.std.specs.List.{filter, find, flat_map, fold, range_with_len}
use Rattle.std.proofs.lemmas.Grind.{flat_map-append, fold-append}
use Rattle.std.proofs.lemmas.List.{append-nil}
use Rattle.std.proofs.lemmas.List.Elements.{filter-append}

-- what is found in a list that was made of another
find_step : {A B : Type 0} (f : A → B) (x : A) (b : Bool) (t : Option A) (m : Option B) →
    option_map f t ≡ m → option_map f (cond b (Some x) t) ≡ cond b (Some (f x)) m
find_step f x true t m h = refl
find_step f x false t m h = h

pub find_map : {A B : Type 0} (q : B → Bool) (f : A → B) (xs : List A) →
    option_map f (find (λ x. q (f x)) xs) ≡ find q (map f xs)
find_map q f [] = refl
find_map q f (x ∷ xs) = find_step f x (q (f x)) (find (λ y. q (f y)) xs) (find q (map f xs)) (find_map q f xs)

pub map_twice : {A B C : Type 0} (g : B → C) (f : A → B) (o : Option A) →
    option_map (λ x. g (f x)) o ≡ option_map g (option_map f o)
map_twice g f None = refl
map_twice g f (Some x) = refl

-- one number more
range_more : (a n : ℕ) → range_with_len a (suc n) ≡ range_with_len a n ++ (a + n) ∷ []
range_more a zero = let same : a ≡ a + 0 = omega arith in ap (λ m. m ∷ []) same
range_more a (suc n) =
    let same : a + 1 + n ≡ a + suc n = omega arith in
    ap (λ ms. a ∷ ms) (range_more (a + 1) n ∙ ap (λ m. range_with_len (a + 1) n ++ m ∷ []) same)

pub first_more : (n : ℕ) → range_with_len 0 (n + 1) ≡ range_with_len 0 n ++ n ∷ []
first_more n =
    let same : 0 + n ≡ n = omega arith in
    rw add-one (range_more 0 n ∙ ap (λ m. range_with_len 0 n ++ m ∷ []) same)

pub filter_of_next : (p : ℕ → Bool) (n : ℕ) →
    filter p (range_with_len 0 (n + 1)) ≡ filter p (range_with_len 0 n) ++ cond (p n) (n ∷ []) []
filter_of_next p n = ap (filter p) (first_more n) ∙ filter-append p (range_with_len 0 n) (n ∷ [])

pub flat_of_next : {X : Type 0} (f : ℕ → List X) (n : ℕ) →
    flat_map f (range_with_len 0 (n + 1)) ≡ flat_map f (range_with_len 0 n) ++ f n
flat_of_next f n =
    ap (flat_map f) (first_more n) ∙ flat_map-append f (range_with_len 0 n) (n ∷ []) ∙
    ap (λ xs. flat_map f (range_with_len 0 n) ++ xs) (append-nil (f n))

pub fold_of_next : {X : Type 0} (f : X → ℕ → X) (a : X) (n : ℕ) →
    fold f a (range_with_len 0 (n + 1)) ≡ f (fold f a (range_with_len 0 n)) n
fold_of_next f a n = ap (fold f a) (first_more n) ∙ fold-append f a (range_with_len 0 n) (n ∷ [])

-- what a step adds behind what was there before
pub added : {A : Type 0} {new old after : List A} (start before part : List A) → new ≡ old ++ part →
    old ≡ start ++ before → before ++ part ≡ after → new ≡ start ++ after
added start before part h k l =
    h ∙ ap (λ xs. xs ++ part) k ∙ append_assoc start before part ∙ ap (λ xs. start ++ xs) l

-- what a step adds, before what is left to add
pub added_before : {A : Type 0} {new left whole : List A} (old part rest : List A) → new ≡ old ++ part →
    old ++ left ≡ whole → left ≡ part ++ rest → new ++ rest ≡ whole
added_before old part rest h k l =
    ap (λ xs. xs ++ rest) h ∙ append_assoc old part rest ∙ ap (λ xs. old ++ xs) (sym l) ∙ k
