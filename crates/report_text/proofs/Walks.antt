-- What a walk tells with one element more.
use Rattle.std.proofs.Common.{◌≡◌, ℕ, zero, suc, ◌+◌, List, [], ◌∷◌, ◌++◌, map, flat_map, Option, Some, None, refl, sym, ◌∙◌, ap, arith, append_assoc, add-one}
use Rattle.std.specs.List.{filter_map, cons_option, range_with_len}
use Rattle.std.specs.Option.{option_map_or}
use Rattle.std.proofs.lemmas.Grind.{flat_map-append}
use Rattle.std.proofs.lemmas.List.{append-nil, map-append}
use Rattle.std.proofs.lemmas.List.Elements.{filter_map-append}
use Rattle.std.proofs.lemmas.List.FromFn.{map-range_with_len_more}

range_more : (a n : ℕ) → range_with_len a (suc n) ≡ range_with_len a n ++ (a + n) ∷ []
range_more a zero = let same : a ≡ a + 0 = omega arith in ap (λ m. m ∷ []) same
range_more a (suc n) =
    let same : a + 1 + n ≡ a + suc n = omega arith in
    ap (λ ms. a ∷ ms) (range_more (a + 1) n ∙ ap (λ m. range_with_len (a + 1) n ++ m ∷ []) same)

first_more : (n : ℕ) → range_with_len 0 (n + 1) ≡ range_with_len 0 n ++ n ∷ []
first_more n =
    let same : 0 + n ≡ n = omega arith in
    rw add-one (range_more 0 n ∙ ap (λ m. range_with_len 0 n ++ m ∷ []) same)

-- the text and the data of a list with what an option holds behind it
text_more : {X : Type 0} (g : X → List ℕ) (xs : List X) (o : Option X) →
    flat_map g (xs ++ cons_option o []) ≡ flat_map g xs ++ option_map_or g o []
text_more g xs None = flat_map-append g xs []
text_more g xs (Some x) = flat_map-append g xs (x ∷ []) ∙ ap (λ text. flat_map g xs ++ text) (append-nil (g x))

data_more : {X Y : Type 0} (g : X → Y) (xs : List X) (o : Option X) →
    map g (xs ++ cons_option o []) ≡ map g xs ++ option_map_or (λ x. g x ∷ []) o []
data_more g xs None = map-append g xs []
data_more g xs (Some x) = map-append g xs (x ∷ [])

-- of each of the first numbers
pub text_of_next : {X : Type 0} (g : X → List ℕ) (f : ℕ → X) (n : ℕ) →
    flat_map g (map f (range_with_len 0 n)) ++ g (f n) ≡ flat_map g (map f (range_with_len 0 (n + 1)))
text_of_next g f n = sym (ap (λ xs. flat_map g xs) (map-range_with_len_more f 0 n n (omega arith)) ∙
    text_more g (map f (range_with_len 0 n)) (Some (f n)))

pub data_of_next : {X Y : Type 0} (g : X → Y) (f : ℕ → X) (n : ℕ) →
    map g (map f (range_with_len 0 n)) ++ g (f n) ∷ [] ≡ map g (map f (range_with_len 0 (n + 1)))
data_of_next g f n = sym (ap (λ xs. map g xs) (map-range_with_len_more f 0 n n (omega arith)) ∙
    data_more g (map f (range_with_len 0 n)) (Some (f n)))

-- of the first numbers that have a row
number_rows : {X : Type 0} (h : ℕ → Option X) (n : ℕ) (o : Option X) → h n ≡ o
    → filter_map h (range_with_len 0 (n + 1)) ≡ filter_map h (range_with_len 0 n) ++ cons_option o []
number_rows h n o row =
    ap (λ ns. filter_map h ns) (first_more n) ∙ filter_map-append h (range_with_len 0 n) (n ∷ [])
    ∙ ap (λ r. filter_map h (range_with_len 0 n) ++ cons_option r []) row

pub text_of_number : {X : Type 0} (g : X → List ℕ) (h : ℕ → Option X) (n : ℕ) (o : Option X) → h n ≡ o
    → flat_map g (filter_map h (range_with_len 0 n)) ++ option_map_or g o [] ≡ flat_map g
    (filter_map h (range_with_len 0 (n + 1)))
text_of_number g h n o row = sym (ap (λ xs. flat_map g xs) (number_rows h n o row) ∙
    text_more g (filter_map h (range_with_len 0 n)) o)

pub data_of_number : {X Y : Type 0} (g : X → Y) (h : ℕ → Option X) (n : ℕ) (o : Option X) → h n ≡ o
    → map g (filter_map h (range_with_len 0 n)) ++ option_map_or (λ x. g x ∷ []) o [] ≡ map g
    (filter_map h (range_with_len 0 (n + 1)))
data_of_number g h n o row = sym (ap (λ xs. map g xs) (number_rows h n o row) ∙
    data_more g (filter_map h (range_with_len 0 n)) o)

-- of the names that are left, with the first of them
text_of_option : {Y : Type 0} (g : Y → List ℕ) (o : Option Y) (ys : List Y) →
    flat_map g (cons_option o ys) ≡ option_map_or g o [] ++ flat_map g ys
text_of_option g None ys = refl
text_of_option g (Some y) ys = refl

pub text_of_name : {X Y : Type 0} (g : Y → List ℕ) (h : X → Option Y) (x : X) (xs : List X) (o : Option Y) → h x ≡ o
    → flat_map g (filter_map h (x ∷ xs)) ≡ option_map_or g o [] ++ flat_map g (filter_map h xs)
text_of_name g h x xs o row = ap (λ r. flat_map g (cons_option r (filter_map h xs))) row ∙
    text_of_option g o (filter_map h xs)

data_of_option : {Y Z : Type 0} (g : Y → Z) (o : Option Y) (ys : List Y) →
    map g (cons_option o ys) ≡ option_map_or (λ y. g y ∷ []) o [] ++ map g ys
data_of_option g None ys = refl
data_of_option g (Some y) ys = refl

pub data_of_name : {X Y Z : Type 0} (g : Y → Z) (h : X → Option Y) (x : X) (xs : List X) (o : Option Y) → h x ≡ o
    → map g (filter_map h (x ∷ xs)) ≡ option_map_or (λ y. g y ∷ []) o [] ++ map g (filter_map h xs)
data_of_name g h x xs o row = ap (λ r. map g (cons_option r (filter_map h xs))) row ∙
    data_of_option g o (filter_map h xs)

-- what a step adds, before what is left to tell
pub told_before : {A : Type 0} {new left whole : List A} (old part rest : List A) → new ≡ old ++ part →
    old ++ left ≡ whole → left ≡ part ++ rest → new ++ rest ≡ whole
told_before old part rest h k l =
    ap (λ text. text ++ rest) h ∙ append_assoc old part rest ∙ ap (λ text. old ++ text) (sym l) ∙ k

-- two steps
pub and_then : {A : Type 0} {y z : List A} (x a b : List A) → y ≡ x ++ a → z ≡ y ++ b → z ≡ x ++ (a ++ b)
and_then x a b first second = second ∙ ap (λ text. text ++ b) first ∙ append_assoc x a b

-- what a step adds to what was told before it, from the start of the text or from where the walk began
pub told : {A : Type 0} {new old before after : List A} (part : List A) → new ≡ old ++ part → old ≡ before →
    before ++ part ≡ after → new ≡ after
told part h k l = h ∙ ap (λ text. text ++ part) k ∙ l

pub told_from : {A : Type 0} {new old after : List A} (start before part : List A) → new ≡ old ++ part →
    old ≡ start ++ before → before ++ part ≡ after
    → new ≡ start ++ after
told_from start before part h k l =
    h ∙ ap (λ text. text ++ part) k ∙ append_assoc start before part ∙ ap (λ text. start ++ text) l

-- where nothing is added
pub none_told : {A : Type 0} {new old : List A} → new ≡ old → new ≡ old ++ []
none_told {old = old} h = h ∙ sym (append-nil old)
