-- Where the first bytes of two texts are different numbers, the texts are ordered as these are.
use Rattle.std.proofs.Common.{◌≡◌, ℕ, zero, suc, ◌+◌, ◌*◌, ◌^◌, ◌<◌, ◌≤◌, true, ◌&&◌, nat_lt, nat_le, ◌⊎◌, List, [], ◌∷◌, length, All, refl, sym, ap, subst, ◌∙◌, arith, inl, inr, ⊎_elim, mul-le-mul_left, mul-suc}
use Rattle.std.specs.List.{list_all}
use Rattle.std.specs.Ordering.{nat_cmp, ordering_then}
use Rattle.std.specs.Cmp.Lexicographic.{slice_cmp}
use Rattle.std.specs.declared.cmp.Ordering.{Ordering}
use Rattle.std.specs.declared.cmp.Ordering.TheVariants.{Less, Equal, Greater}
use Rattle.std.proofs.lemmas.Bool.{and_parts, cases_lt}
use Rattle.std.proofs.lemmas.Bool.Decides.{nat_tests}
use Rattle.std.proofs.lemmas.Slice.Eq.{bytes_eq-Decides}
use Rattle.std.specs.Str.{bytes_eq}
use Rattle.actions.specs.Limits.{max_name}
use Rattle.actions.specs.Names.{is_name, is_name_byte, first_bytes}

-- each is a byte
abbrev pub AreBytes : List ℕ → Type 0
AreBytes bs = All (λ b. b < 256) bs

rest : (b : ℕ) (bs : List ℕ) → AreBytes (b ∷ bs) → AreBytes bs
rest b bs are i x low = are (suc i) x (omega (arith, low))

power_some : (k : ℕ) → 0 < 256 ^ k
power_some zero = omega arith
power_some (suc k) = let before = power_some k in omega (arith, before)

below : (k : ℕ) (bs : List ℕ) → AreBytes bs → first_bytes k bs < 256 ^ k
below zero bs are = omega arith
below (suc k) [] are = power_some (suc k)
below (suc k) (b ∷ bs) are =
    let first : b < 256 = are 0 b (omega arith) in
    let others = below k bs (rest b bs are) in
    let most : 256 ^ k * b ≤ 256 ^ k * 255 = mul-le-mul_left (256 ^ k) (omega (arith, first)) in
    omega (arith, others, most)

-- a number with a lower first digit is lower, whatever comes behind
first_digit : (p x y a b : ℕ) → x < y → a < p → p * x + a < p * y + b
first_digit p x y a b lt small =
    let step : p * suc x ≤ p * y = mul-le-mul_left p lt in
    let more = mul-suc p x in
    omega (arith, step, more, small)

number_less : (x y : ℕ) → x < y → nat_cmp x y ≡ Less
number_less x y lt = grind (arith, nat_tests, lt)

number_greater : (x y : ℕ) → y < x → nat_cmp x y ≡ Greater
number_greater x y lt = grind (arith, nat_tests, lt)

number_equal : (x y : ℕ) → x ≡ y → nat_cmp x y ≡ Equal
number_equal x y e = grind (arith, nat_tests, e)

pub front_less : (k : ℕ) (xs ys : List ℕ) → AreBytes xs → AreBytes ys → first_bytes k xs < first_bytes k ys →
    slice_cmp nat_cmp xs ys ≡ Less
front_less zero xs ys p q lt = absurd (omega (arith, lt))
front_less (suc k) [] [] p q lt = absurd (omega (arith, lt))
front_less (suc k) [] (y ∷ ys) p q lt = refl
front_less (suc k) (x ∷ xs) [] p q lt = absurd (omega (arith, lt))
front_less (suc k) (x ∷ xs) (y ∷ ys) p q lt = ⊎_elim
    (λ less. ap (λ o. ordering_then o (slice_cmp nat_cmp xs ys)) (number_less x y less))
    (λ most. ⊎_elim
    (λ greater. absurd (let other = first_digit (256 ^ k) y x (first_bytes k ys) (first_bytes k xs) greater
    (below k ys (rest y ys q)) in omega (arith, lt, other)))
    (λ upto.
    let same : x ≡ y = omega (arith, most, upto) in
    let behind : first_bytes k xs < first_bytes k ys =
    omega (arith, subst (λ z. 256 ^ k * z + first_bytes k xs < 256 ^ k * y + first_bytes k ys) same lt) in
    ap (λ o. ordering_then o (slice_cmp nat_cmp xs ys)) (number_equal x y same) ∙
    front_less k xs ys (rest x xs p) (rest y ys q) behind)
    (cases_lt y x))
    (cases_lt x y)

pub front_greater : (k : ℕ) (xs ys : List ℕ) → AreBytes xs → AreBytes ys → first_bytes k ys < first_bytes k xs →
    slice_cmp nat_cmp xs ys ≡ Greater
front_greater zero xs ys p q lt = absurd (omega (arith, lt))
front_greater (suc k) [] [] p q lt = absurd (omega (arith, lt))
front_greater (suc k) (x ∷ xs) [] p q lt = refl
front_greater (suc k) [] (y ∷ ys) p q lt = absurd (omega (arith, lt))
front_greater (suc k) (x ∷ xs) (y ∷ ys) p q lt = ⊎_elim
    (λ greater. ap (λ o. ordering_then o (slice_cmp nat_cmp xs ys)) (number_greater x y greater))
    (λ most. ⊎_elim
    (λ less. absurd (let other = first_digit (256 ^ k) x y (first_bytes k xs) (first_bytes k ys) less
    (below k xs (rest x xs p)) in omega (arith, lt, other)))
    (λ upto.
    let same : x ≡ y = omega (arith, most, upto) in
    let behind : first_bytes k ys < first_bytes k xs =
    omega (arith, subst (λ z. 256 ^ k * y + first_bytes k ys < 256 ^ k * z + first_bytes k xs) same lt) in
    ap (λ o. ordering_then o (slice_cmp nat_cmp xs ys)) (number_equal x y same) ∙
    front_greater k xs ys (rest x xs p) (rest y ys q) behind)
    (cases_lt x y))
    (cases_lt y x)

-- none is 0
abbrev pub AreSome : List ℕ → Type 0
AreSome bs = All (λ b. 0 < b) bs

some_rest : (b : ℕ) (bs : List ℕ) → AreSome (b ∷ bs) → AreSome bs
some_rest b bs are i x low = are (suc i) x (omega (arith, low))

-- a text that has bytes and no 0 has a number above 0
above : (k y : ℕ) (ys : List ℕ) → 0 < y → 0 < first_bytes (suc k) (y ∷ ys)
above k y ys some =
    let least : 256 ^ k * 1 ≤ 256 ^ k * y = mul-le-mul_left (256 ^ k) some in
    let power = power_some k in
    omega (arith, least, power)

-- texts that are no longer, and in which no byte is 0, are equal where the numbers are
front_same : (k : ℕ) (xs ys : List ℕ) → AreBytes xs → AreBytes ys → AreSome xs → AreSome ys → length xs ≤ k →
    length ys ≤ k → first_bytes k xs ≡ first_bytes k ys → xs ≡ ys
front_same zero [] [] p q m n xk yk h = refl
front_same zero [] (y ∷ ys) p q m n xk yk h = absurd (omega (arith, yk))
front_same zero (x ∷ xs) ys p q m n xk yk h = absurd (omega (arith, xk))
front_same (suc k) [] [] p q m n xk yk h = refl
front_same (suc k) [] (y ∷ ys) p q m n xk yk h =
    let some = above k y ys (n 0 y (omega arith)) in absurd (omega (arith, some, h))
front_same (suc k) (x ∷ xs) [] p q m n xk yk h =
    let some = above k x xs (m 0 x (omega arith)) in absurd (omega (arith, some, h))
front_same (suc k) (x ∷ xs) (y ∷ ys) p q m n xk yk h = ⊎_elim
    (λ less. absurd (let other = first_digit (256 ^ k) x y (first_bytes k xs) (first_bytes k ys) less
    (below k xs (rest x xs p)) in omega (arith, h, other)))
    (λ most. ⊎_elim
    (λ greater. absurd (let other = first_digit (256 ^ k) y x (first_bytes k ys) (first_bytes k xs) greater
    (below k ys (rest y ys q)) in omega (arith, h, other)))
    (λ upto.
    let same : x ≡ y = omega (arith, most, upto) in
    let behind : first_bytes k xs ≡ first_bytes k ys =
    omega (arith, subst (λ z. 256 ^ k * z + first_bytes k xs ≡ 256 ^ k * y + first_bytes k ys) same h) in
    ap (λ z. z ∷ xs) same ∙
    ap (λ zs. y ∷ zs) (front_same k xs ys (rest x xs p) (rest y ys q) (some_rest x xs m) (some_rest y ys n)
    (omega (arith, xk)) (omega (arith, yk)) behind))
    (cases_lt y x))
    (cases_lt x y)

-- a name has bytes alone, and none is 0
name_byte : (b : ℕ) → is_name_byte b ≡ true → b < 256
name_byte b h = ⊎_elim (λ lt. lt) (λ le. absurd (grind (arith, nat_tests, h, le))) (cases_lt b 256)

name_some : (b : ℕ) → is_name_byte b ≡ true → 0 < b
name_some b h = ⊎_elim (λ lt. lt) (λ le. absurd (grind (arith, nat_tests, h, le))) (cases_lt 0 b)

all_some : (bs : List ℕ) → list_all is_name_byte bs ≡ true → AreSome bs
all_some [] h i x low = absurd (omega (arith, low))
all_some (b ∷ bs) h zero x low = name_some b (and_parts (is_name_byte b) (list_all is_name_byte bs) h).0
all_some (b ∷ bs) h (suc i) x low =
    all_some bs (and_parts (is_name_byte b) (list_all is_name_byte bs) h).1 i x (omega (arith, low))

all_bytes : (bs : List ℕ) → list_all is_name_byte bs ≡ true → AreBytes bs
all_bytes [] h i x low = absurd (omega (arith, low))
all_bytes (b ∷ bs) h zero x low = name_byte b (and_parts (is_name_byte b) (list_all is_name_byte bs) h).0
all_bytes (b ∷ bs) h (suc i) x low =
    all_bytes bs (and_parts (is_name_byte b) (list_all is_name_byte bs) h).1 i x (omega (arith, low))

name_bytes : (bs : List ℕ) → is_name bs ≡ true → AreBytes bs
name_bytes bs h =
    let most = nat_lt 0 (length bs) && nat_le (length bs) max_name in
    all_bytes bs (and_parts most (list_all is_name_byte bs) h).1

name_somes : (bs : List ℕ) → is_name bs ≡ true → AreSome bs
name_somes bs h =
    let most = nat_lt 0 (length bs) && nat_le (length bs) max_name in
    all_some bs (and_parts most (list_all is_name_byte bs) h).1

cmp_less : (a b : ℕ) → nat_cmp a b ≡ Less → a < b
cmp_less a b h = ⊎_elim (λ lt. lt) (λ le. absurd (grind (arith, nat_tests, h, le))) (cases_lt a b)

cmp_greater : (a b : ℕ) → nat_cmp a b ≡ Greater → b < a
cmp_greater a b h = ⊎_elim (λ lt. lt) (λ le. absurd (grind (arith, nat_tests, h, le))) (cases_lt b a)

-- two names are ordered as their first bytes, where these differ
pub ordered_so : (o : Ordering) (a b : ℕ) (xs ys : List ℕ) → (o ≡ Less) ⊎ (o ≡ Greater) → o ≡ nat_cmp a b →
    (is_name xs ≡ true) × (a ≡ first_bytes 8 xs) → (is_name ys ≡ true) × (b ≡ first_bytes 8 ys) →
    o ≡ slice_cmp nat_cmp xs ys
ordered_so o a b xs ys (inl less) is p q =
    let lt = cmp_less a b (sym is ∙ less) in
    let first = p.1 in
    let second = q.1 in
    less ∙ sym (front_less 8 xs ys (name_bytes xs p.0) (name_bytes ys q.0) (omega (arith, lt, first, second)))
ordered_so o a b xs ys (inr greater) is p q =
    let lt = cmp_greater a b (sym is ∙ greater) in
    let first = p.1 in
    let second = q.1 in
    greater ∙ sym (front_greater 8 xs ys (name_bytes xs p.0) (name_bytes ys q.0) (omega (arith, lt, first, second)))

cmp_equal : (a b : ℕ) → nat_cmp a b ≡ Equal → a ≡ b
cmp_equal a b h = grind (arith, nat_tests, h)

itself_equal : (xs : List ℕ) → slice_cmp nat_cmp xs xs ≡ Equal
itself_equal [] = refl
itself_equal (x ∷ xs) = ap (λ o. ordering_then o (slice_cmp nat_cmp xs xs)) (number_equal x x refl) ∙ itself_equal xs

-- two names of at most eight bytes are one where their first bytes are
same_names : (a b : ℕ) (xs ys : List ℕ) → a ≡ b → (is_name xs ≡ true) × (a ≡ first_bytes 8 xs) →
    (is_name ys ≡ true) × (b ≡ first_bytes 8 ys) → length xs ≤ 8 → length ys ≤ 8 → xs ≡ ys
same_names a b xs ys same p q short other =
    front_same 8 xs ys (name_bytes xs p.0) (name_bytes ys q.0) (name_somes xs p.0) (name_somes ys q.0) short other
    (sym p.1 ∙ same ∙ q.1)

pub equal_so : (o : Ordering) (a b : ℕ) (xs ys : List ℕ) → o ≡ Equal → o ≡ nat_cmp a b →
    (is_name xs ≡ true) × (a ≡ first_bytes 8 xs) → (is_name ys ≡ true) × (b ≡ first_bytes 8 ys) →
    length xs ≤ 8 → length ys ≤ 8 → Equal ≡ slice_cmp nat_cmp xs ys
equal_so o a b xs ys equal is p q short other =
    let same = same_names a b xs ys (cmp_equal a b (sym is ∙ equal)) p q short other in
    sym (ap (λ zs. slice_cmp nat_cmp xs zs) (sym same) ∙ itself_equal xs)

pub same_so : (a b : ℕ) (xs ys : List ℕ) → a ≡ b → (is_name xs ≡ true) × (a ≡ first_bytes 8 xs) →
    (is_name ys ≡ true) × (b ≡ first_bytes 8 ys) → length xs ≤ 8 → length ys ≤ 8 → true ≡ bytes_eq xs ys
same_so a b xs ys same p q short other = sym ((bytes_eq-Decides xs ys).1 (same_names a b xs ys same p q short other))
