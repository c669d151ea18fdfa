-- The canonical text spells what it stands for, and no spelling is shorter.
use Rattle.std.proofs.Common.{◌≡◌, ℕ, ◌+◌, ◌-◌, ◌/◌, ◌%◌, ◌^◌, ◌<◌, ◌≤◌, Bool, true, false, eqb, leb, List, [], ◌∷◌, ◌++◌, length, take, replicate, map, Option, Some, None, refl, sym, ap, subst, ◌∙◌, arith, append_assoc, length-append}
use Rattle.std.specs.Prelude.{codes, decimal, option_map, IfSome}
use Rattle.std.specs.Char.{is_ascii_digit, digit_value}
use Rattle.std.specs.List.{AllByRecursion, list_all}
use Rattle.std.specs.Str.Parse.{IsNumeral, AllDigits, digits_value}
use Rattle.std.proofs.lemmas.Bool.{eq-eqb, eqb-true, eqb-false, and_parts, cond_both, leb-true}
use Rattle.std.proofs.lemmas.List.{append-nil, take_at, length-replicate, replicate-append-replicate}
use Rattle.std.proofs.lemmas.Str.{digit_value_digit}
use Rattle.std.proofs.lemmas.Str.Parse.{digit_from_value}
use Rattle.std.proofs.lemmas.Fmt.{decimal_is_IsNumeral, length-decimal-le}
use Rattle.actions.specs.Numbers.{four_decimals}
use Rattle.actions.specs.Value.{TaskValue, off, «return», sleep, panic, print, pause, yield, delay, TermValue}
use Rattle.actions.specs.Grammar
use Rattle.actions.specs.Grammar.{Percent, percent_text, PercentIs, chance_text, ChanceIs, count_text, CountIs, word_of, argument_text, TimeIs, ArgumentIs, WrittenTerm, core_text, written_text, Means, SpellsTerm, SpellEach, SpellsActions, IsPlain, IsShort, IsNumber, with_arrows, LacksArrow}
use Rattle.actions.specs.Bytes.{without_end, closing_parenthesis, dash, greater_sign, opening_parenthesis, percent_sign, point, space, star, zero_digit}
use Rattle.actions.specs.Canonical.{digit, four_digits, percent_of, chance_of, argument_of, canonical_term, term_text, canonical}
use Rattle.actions.proofs.NumberLemmas.{own, digits_below, filled_below}
use Rattle.actions.specs.Reading.{is_bad_byte}
use Rattle.actions.proofs.TrimLemmas.{end_parts, end_dropped}
use Rattle.actions.proofs.PieceLemmas.{no_arrow, lacks_arrow, no_arrow_from, no_arrow_front, no_arrow_back, no_arrow_after}
use Rattle.actions.proofs.Sound.{plain}
use Rattle.actions.proofs.Complete.{is_letter, word_letters, digits_lack, head_text, head_lacks, core_is}

-- ---- numbers

decimal_number : (n : ℕ) → n < 2 ^ 64 → IsNumber (decimal n) n
decimal_number n h = let d = decimal_is_IsNumeral n h in (d.0, sym d.1, h)

below_power : (ds : List ℕ) → IsNumeral 10 ds → digits_value 10 ds < 10 ^ length ds
below_power ds h = digits_below (length ds) ds (own.from ds h.1) (omega arith)

-- no digits are fewer than the decimal ones
decimal_shortest : (ds : List ℕ) (n : ℕ) → IsNumeral 10 ds → n ≡ digits_value 10 ds → n < 2 ^ 64
    → length (decimal n) ≤ length ds
decimal_shortest ds n h e fits = length-decimal-le (length ds) n h.0 (rw e (below_power ds h)) fits

-- ---- four digits

value_of_digit : (d : ℕ) → d < 10 → digit_value (digit d) ≡ d
value_of_digit d h = omega (arith, digit_value_digit (digit d) (omega arith, omega arith))

pub value_of_four : (n : ℕ) → n < 10000 → digits_value 10 (four_digits n) ≡ n
value_of_four n h =
    omega (
      arith,
      value_of_digit (n / 1000) (omega arith),
      value_of_digit (n / 100 % 10) (omega arith),
      value_of_digit (n / 10 % 10) (omega arith),
      value_of_digit (n % 10) (omega arith),
    )

digit_is : (c : ℕ) → digit_value c < 10 → c ≡ digit (digit_value c)
digit_is c h = let r = digit_from_value c h in omega (arith, digit_value_digit c r)

four_same : (n a b c d : ℕ) → digit (n / 1000) ≡ a → digit (n / 100 % 10) ≡ b → digit (n / 10 % 10) ≡ c →
    digit (n % 10) ≡ d
    → four_digits n ≡ a ∷ b ∷ c ∷ d ∷ []
four_same n a b c d ea eb ec ed = rw (ea, eb, ec, ed) refl

-- four digits are those of their value
pub four_of_value : (a b c d : ℕ) → AllDigits 10 (a ∷ b ∷ c ∷ d ∷ [])
    → four_digits (digits_value 10 (a ∷ b ∷ c ∷ d ∷ [])) ≡ a ∷ b ∷ c ∷ d ∷ []
four_of_value a b c d h =
    let n = digits_value 10 (a ∷ b ∷ c ∷ d ∷ []) in
    let ia = digit_is a h.0 in
    let ib = digit_is b h.1.0 in
    let ic = digit_is c h.1.1.0 in
    let id = digit_is d h.1.1.1.0 in
    four_same n a b c d (omega (arith, h.0, h.1.0, h.1.1.0, h.1.1.1.0)) (omega (arith, h.0, h.1.0, h.1.1.0, h.1.1.1.0))
    (omega (arith, h.0, h.1.0, h.1.1.0, h.1.1.1.0)) (omega (arith, h.0, h.1.0, h.1.1.0, h.1.1.1.0))

-- ---- decimals without the zeros at their end

filled_kept : (ds : List ℕ) → length ds ≡ 4 → four_decimals (without_end zero_digit ds) ≡ ds
filled_kept ds four =
    let kept = without_end zero_digit ds in
    let r = end_parts zero_digit ds in
    let n : length kept + r.0 ≡ 4 =
    omega (
      arith,
      ap length r.1,
      length-append kept (replicate r.0 zero_digit),
      length-replicate {A = ℕ} r.0 zero_digit,
      four,
    ) in
    let sum : r.0 + length kept ≡ 4 = omega arith in
    let zeros : replicate r.0 zero_digit ++ replicate (length kept) zero_digit ≡ codes "0000" =
    replicate-append-replicate r.0 (length kept) zero_digit ∙ ap (λ (k : ℕ). replicate k zero_digit) sum in
    let whole : kept ++ codes "0000" ≡ ds ++ replicate (length kept) zero_digit =
    ap (λ (x : List ℕ). kept ++ x) (sym zeros)
    ∙ sym (append_assoc kept (replicate r.0 zero_digit) (replicate (length kept) zero_digit))
    ∙ ap (λ (x : List ℕ). x ++ replicate (length kept) zero_digit) (sym r.1) in
    ap (take 4) whole ∙ take_at ds (replicate (length kept) zero_digit) 4 four

front_digits : (xs ys : List ℕ) → AllDigits 10 (xs ++ ys) → AllDigits 10 xs
front_digits [] ys h = tt
front_digits (x ∷ xs) ys h = (h.0, front_digits xs ys h.1)

kept_digits : (ds : List ℕ) → AllDigits 10 ds → AllDigits 10 (without_end zero_digit ds)
kept_digits ds h =
    let r = end_parts zero_digit ds in
    front_digits (without_end zero_digit ds) (replicate r.0 zero_digit) (subst (AllDigits 10) r.1 h)

kept_length : (ds : List ℕ) → length (without_end zero_digit ds) ≤ length ds
kept_length ds =
    let r = end_parts zero_digit ds in
    omega (arith, ap length r.1, length-append (without_end zero_digit ds) (replicate r.0 zero_digit))

four_digits_are : (n : ℕ) → n < 10000 → AllDigits 10 (four_digits n)
four_digits_are n h =
    let below : (d : ℕ) → d < 10 → digit_value (digit d) < 10 = λ d lt. omega (arith, value_of_digit d lt, lt) in (
      below (n / 1000) (omega arith),
      (
        below (n / 100 % 10) (omega arith),
        (below (n / 10 % 10) (omega arith), (below (n % 10) (omega arith), tt)),
      ),
    )

some_kept : (kept : List ℕ) (n : ℕ) → digits_value 10 (four_decimals kept) ≡ n → 0 < n → 0 < length kept
some_kept [] n e some = omega (arith, e)
some_kept (x ∷ xs) n e some = omega arith

kept_value : (n : ℕ) → n < 10000 → digits_value 10 (four_decimals (without_end zero_digit (four_digits n))) ≡ n
kept_value n h = ap (digits_value 10) (filled_kept (four_digits n) refl) ∙ value_of_four n h

kept_short : (n : ℕ) → n < 10000 → 0 < n → IsShort 4 (without_end zero_digit (four_digits n))
kept_short n h some =
    let kept = without_end zero_digit (four_digits n) in (
      (some_kept kept n (kept_value n h) some, kept_digits (four_digits n) (four_digits_are n h)),
      kept_length (four_digits n),
    )

-- ---- percentages

short_decimal : (n : ℕ) → n < 1000 → IsShort 3 (decimal n)
short_decimal n h = (((decimal_is_IsNumeral n (omega arith)).0), length-decimal-le 3 n (omega arith) h (omega arith))

decimal_value : (n : ℕ) → n < 2 ^ 64 → digits_value 10 (decimal n) ≡ n
decimal_value n h = (decimal_is_IsNumeral n h).1

percent_means : (ppm : ℕ) → ppm ≤ 1000000 → PercentIs (percent_of ppm) ppm
percent_means ppm le =
    let v = decimal_value (ppm / 10000) (omega arith) in
    cond_both (eqb (ppm % 10000) 0) (Grammar.whole (decimal (ppm / 10000)))
    (Grammar.pointed (decimal (ppm / 10000)) (without_end zero_digit (four_digits (ppm % 10000))))
    (λ p. PercentIs p ppm)
    (λ e. let none = eqb-true (ppm % 10000) 0 e in (
      short_decimal (ppm / 10000) (omega arith),
      omega (arith, v, none),
      le,
    ))
    (λ e.
    let some : 0 < ppm % 10000 = let f = eqb-false (ppm % 10000) 0 e in omega arith in (
      short_decimal (ppm / 10000) (omega arith),
      kept_short (ppm % 10000) (omega arith) some,
      omega
          (arith, v, kept_value (ppm % 10000) (omega arith)),
      le,
    ))

chance_means : (ppm : ℕ) → ppm ≤ 1000000 → ChanceIs (chance_of ppm) ppm
chance_means ppm le =
    cond_both (eqb ppm 1000000) None (Some (percent_of ppm)) (λ ch. ChanceIs ch ppm) (λ e. eqb-true ppm 1000000 e)
    (λ _. percent_means ppm le)

filled_is : (ds : List ℕ) → 0 < length ds → length ds ≤ 4 → four_decimals ds ≡ ds ++
    replicate (4 - length ds) zero_digit
filled_is [] some few = absurd (omega arith)
filled_is (a ∷ []) some few = refl
filled_is (a ∷ b ∷ []) some few = refl
filled_is (a ∷ b ∷ c ∷ []) some few = refl
filled_is (a ∷ b ∷ c ∷ d ∷ []) some few = refl
filled_is (a ∷ b ∷ c ∷ d ∷ e ∷ ds) some few = absurd (omega arith)

four_filled : (ds : List ℕ) → 0 < length ds → length ds ≤ 4 → AllDigits 10 ds
    → four_digits (digits_value 10 (four_decimals ds)) ≡ four_decimals ds
four_filled [] some few h = absurd (omega arith)
four_filled (a ∷ []) some few h =
    four_of_value a zero_digit zero_digit zero_digit (h.0, (omega arith, (omega arith, (omega arith, tt))))
four_filled (a ∷ b ∷ []) some few h =
    four_of_value a b zero_digit zero_digit (h.0, (h.1.0, (omega arith, (omega arith, tt))))
four_filled (a ∷ b ∷ c ∷ []) some few h = four_of_value a b c zero_digit (h.0, (h.1.0, (h.1.1.0, (omega arith, tt))))
four_filled (a ∷ b ∷ c ∷ d ∷ []) some few h = four_of_value a b c d h
four_filled (a ∷ b ∷ c ∷ d ∷ e ∷ ds) some few h = absurd (omega arith)

-- the decimals of a number are no more than those that were read
decimals_shortest : (ds : List ℕ) → IsShort 4 ds
    → length (without_end zero_digit (four_digits (digits_value 10 (four_decimals ds)))) ≤ length ds
decimals_shortest ds h =
    let same : without_end zero_digit (four_digits (digits_value 10 (four_decimals ds))) ≡ without_end zero_digit ds =
    ap (without_end zero_digit) (four_filled ds h.0.0 h.1 h.0.1 ∙ filled_is ds h.0.0 h.1)
    ∙ end_dropped zero_digit ds (4 - length ds) in
    rw same (kept_length ds)

percent_shortest : (p : Percent) (ppm : ℕ) → PercentIs p ppm
    → length (percent_text (percent_of ppm)) ≤ length (percent_text p)
percent_shortest (Grammar.whole ds) ppm h =
    let none : eqb (ppm % 10000) 0 ≡ true = eq-eqb (ppm % 10000) 0 (omega (arith, h.1)) in
    let v : ppm / 10000 ≡ digits_value 10 ds = omega (arith, h.1) in
    rw none (decimal_shortest ds (ppm / 10000) h.0.0 v (omega (arith, h.2)))
percent_shortest (Grammar.pointed ds decimals) ppm h =
    let small = filled_below decimals (own.from decimals h.1.0.1) h.1.0.0 h.1.1 in
    let v : ppm / 10000 ≡ digits_value 10 ds = omega (arith, h.2, small) in
    let part : ppm % 10000 ≡ digits_value 10 (four_decimals decimals) = omega (arith, h.2, small) in
    let front = decimal_shortest ds (ppm / 10000) h.0.0 v (omega (arith, h.3)) in
    let back : length (without_end zero_digit (four_digits (ppm % 10000))) ≤ length decimals =
    rw part (decimals_shortest decimals h.1) in
    let text = length-append ds (point ∷ decimals) in
    cond_both (eqb (ppm % 10000) 0) (Grammar.whole (decimal (ppm / 10000)))
    (Grammar.pointed (decimal (ppm / 10000)) (without_end zero_digit (four_digits (ppm % 10000))))
    (λ p. length (percent_text p) ≤ length (ds ++ point ∷ decimals))
    (λ _. omega (arith, front, text))
    (λ _. omega (
      arith,
      front,
      back,
      text,
      length-append (decimal (ppm / 10000)) (point ∷ without_end zero_digit (four_digits (ppm % 10000))),
    ))

chance_shortest : (ch : Option Percent) (ppm : ℕ) → ChanceIs ch ppm
    → length (chance_text (chance_of ppm)) ≤ length (chance_text ch)
chance_shortest None ppm h = rw h (omega arith)
chance_shortest (Some p) ppm h =
    cond_both (eqb ppm 1000000) None (Some (percent_of ppm))
    (λ ch. length (chance_text ch) ≤ length (percent_text p ++ percent_sign ∷ []))
    (λ _. omega arith)
    (λ _. omega (
      arith,
      percent_shortest p ppm h,
      length-append (percent_text p) (percent_sign ∷ []),
      length-append (percent_text (percent_of ppm)) (percent_sign ∷ []),
    ))

-- ---- terms

count_means : (n : Option ℕ) → IfSome n (λ k. k < 2 ^ 64) → CountIs (option_map decimal n) n
count_means None h = tt
count_means (Some n) h = decimal_number n h

count_fits : (ds : Option (List ℕ)) (n : Option ℕ) → CountIs ds n → IfSome n (λ k. k < 2 ^ 64)
count_fits None None h = tt
count_fits None (Some n) h = absurd h
count_fits (Some ds) None h = tt
count_fits (Some ds) (Some n) h = h.2

count_shortest : (ds : Option (List ℕ)) (n : Option ℕ) → CountIs ds n
    → length (count_text (option_map decimal n)) ≤ length (count_text ds)
count_shortest None None h = omega arith
count_shortest None (Some n) h = absurd h
count_shortest (Some ds) None h = absurd h
count_shortest (Some ds) (Some n) h =
    omega (
      arith,
      decimal_shortest ds n h.0 h.1 h.2,
      length-append ds (star ∷ []),
      length-append (decimal n) (star ∷ []),
    )

time_means : (argument : Option (List ℕ)) (n : ℕ) → TimeIs argument n → TimeIs (Some (decimal n)) n
time_means None n h = absurd h
time_means (Some ds) n h = decimal_number n h.2

argument_means : (argument : Option (List ℕ)) (task : TaskValue) → ArgumentIs argument task
    → ArgumentIs (argument_of task) task
argument_means argument off h = tt
argument_means argument («return» text) h = refl
argument_means argument (sleep n) h = time_means argument n h
argument_means argument (panic text) h = refl
argument_means argument (print text) h = refl
argument_means argument pause h = tt
argument_means argument yield h = tt
argument_means argument (delay n) h = time_means argument n h

time_shortest : (argument : Option (List ℕ)) (n : ℕ) → TimeIs argument n
    → length (argument_text (Some (decimal n))) ≤ length (argument_text argument)
time_shortest None n h = absurd h
time_shortest (Some ds) n h =
    omega (
      arith,
      decimal_shortest ds n h.0 h.1 h.2,
      length-append ds (closing_parenthesis ∷ []),
      length-append (decimal n) (closing_parenthesis ∷ []),
    )

same_length : (a b : Option (List ℕ)) → a ≡ b → length (argument_text b) ≤ length (argument_text a)
same_length a b e = let s = ap (λ (x : Option (List ℕ)). length (argument_text x)) e in omega arith

argument_shortest : (argument : Option (List ℕ)) (task : TaskValue) → ArgumentIs argument task
    → length (argument_text (argument_of task)) ≤ length (argument_text argument)
argument_shortest argument off h = omega arith
argument_shortest argument («return» text) h = same_length argument text h
argument_shortest argument (sleep n) h = time_shortest argument n h
argument_shortest argument (panic text) h = same_length argument text h
argument_shortest argument (print text) h = same_length argument text h
argument_shortest argument pause h = omega arith
argument_shortest argument yield h = omega arith
argument_shortest argument (delay n) h = time_shortest argument n h

percent_most : (p : Percent) (ppm : ℕ) → PercentIs p ppm → ppm ≤ 1000000
percent_most (Grammar.whole ds) ppm h = h.2
percent_most (Grammar.pointed ds decimals) ppm h = h.3

chance_most : (ch : Option Percent) (ppm : ℕ) → ChanceIs ch ppm → ppm ≤ 1000000
chance_most None ppm h = omega (arith, h)
chance_most (Some p) ppm h = percent_most p ppm h

pub canonical_means : (w : WrittenTerm) (t : TermValue) → Means w t → Means (canonical_term t) t
canonical_means w t m = record {
  chance = chance_means t.ppm (chance_most w.chance t.ppm m.chance);
  count = count_means t.count (count_fits w.count t.count m.count);
  word = refl;
  argument = argument_means w.argument t.task m.argument;
}

core_length : (w : WrittenTerm)
    → length (core_text w) ≡ length (chance_text w.chance) + length (count_text w.count) + length w.word + length
    (argument_text w.argument)
core_length w =
    omega (
      arith,
      length-append (chance_text w.chance) (count_text w.count ++ (w.word ++ argument_text w.argument)),
      length-append (count_text w.count) (w.word ++ argument_text w.argument),
      length-append w.word (argument_text w.argument),
    )

term_length : (w : WrittenTerm) → length (core_text w) ≤ length (written_text w)
term_length w =
    omega (
      arith,
      length-append (replicate w.before space) (core_text w ++ replicate w.after space),
      length-append (core_text w) (replicate w.after space),
    )

pub term_shortest : (w : WrittenTerm) (t : TermValue) → Means w t → length (term_text t) ≤ length (written_text w)
term_shortest w t m =
    omega (
      arith,
      core_length w,
      core_length (canonical_term t),
      term_length w,
      chance_shortest w.chance t.ppm m.chance,
      count_shortest w.count t.count m.count,
      ap (λ (x : List ℕ). length x) m.word,
      argument_shortest w.argument t.task m.argument,
    )

-- ---- whole texts

joined_shortest : (ps : List (List ℕ)) (ts : List TermValue) → SpellEach ps ts
    → length (canonical ts) ≤ length (with_arrows ps)
joined_shortest [] [] h = omega arith
joined_shortest [] (t ∷ ts) h = absurd h
joined_shortest (p ∷ ps) [] h = absurd h
joined_shortest (p ∷ []) (t ∷ []) h = omega (arith, term_shortest h.1.0 t h.1.1, ap (λ (x : List ℕ). length x) h.1.2)
joined_shortest (p ∷ []) (t ∷ u ∷ ts) h = absurd h.2
joined_shortest (p ∷ q ∷ ps) (t ∷ []) h = absurd h.2
joined_shortest (p ∷ q ∷ ps) (t ∷ u ∷ ts) h =
    omega (
      arith,
      term_shortest h.1.0 t h.1.1,
      ap (λ (x : List ℕ). length x) h.1.2,
      joined_shortest (q ∷ ps) (u ∷ ts) h.2,
      length-append p (dash ∷ greater_sign ∷ with_arrows (q ∷ ps)),
      length-append (term_text t) (dash ∷ greater_sign ∷ canonical (u ∷ ts)),
    )

pub canonical_shortest : (text : List ℕ) (ts : List TermValue) → SpellsActions text ts
    → length (canonical ts) ≤ length text
canonical_shortest text ts h =
    omega (arith, joined_shortest h.pieces.0 ts h.pieces.1, ap (λ (x : List ℕ). length x) h.pieces.2)

-- ---- no `->` and no bad byte in it

abbrev AllPlain : List ℕ → Type 0
AllPlain s = AllByRecursion IsPlain s

plain-append : (xs ys : List ℕ) → AllPlain xs → AllPlain ys → AllPlain (xs ++ ys)
plain-append [] ys h k = k
plain-append (x ∷ xs) ys h k = (h.0, plain-append xs ys h.1 k)

plain_front : (xs ys : List ℕ) → AllPlain (xs ++ ys) → AllPlain xs
plain_front [] ys h = tt
plain_front (x ∷ xs) ys h = (h.0, plain_front xs ys h.1)

plain_back : (xs ys : List ℕ) → AllPlain (xs ++ ys) → AllPlain ys
plain_back [] ys h = h
plain_back (x ∷ xs) ys h = plain_back xs ys h.1

-- where each byte passes a test that no bad byte passes
plain_from : (p : ℕ → Bool) (xs : List ℕ) → ((b : ℕ) → p b ≡ true → IsPlain b) → list_all p xs ≡ true → AllPlain xs
plain_from p [] f h = tt
plain_from p (x ∷ xs) f h = let a = and_parts (p x) (list_all p xs) h in (f x a.0, plain_from p xs f a.1)

digit_plain : (b : ℕ) → is_ascii_digit b ≡ true → IsPlain b
digit_plain b h =
    let a =
    and_parts (leb zero_digit b) (leb b 57) h in let low = leb-true zero_digit b a.0 in let high = leb-true b 57 a.1 in
    (omega arith, (λ e. omega (arith, e)), (λ e. omega (arith, e)))

letter_plain : (b : ℕ) → is_letter b ≡ true → IsPlain b
letter_plain b h =
    let a =
    and_parts (leb 97 b) (leb b 122) h in let low = leb-true 97 b a.0 in let high = leb-true b 122 a.1 in
    (omega arith, (λ e. omega (arith, e)), (λ e. omega (arith, e)))

numeral_plain : (ds : List ℕ) → IsNumeral 10 ds → AllPlain ds
numeral_plain ds h = plain_from is_ascii_digit ds digit_plain (own.from ds h.1)

-- a byte that is written out
sign_plain : (b : ℕ) → is_bad_byte b ≡ false → AllPlain (b ∷ [])
sign_plain b h = (plain b h, tt)

percent_plain : (p : Percent) (ppm : ℕ) → PercentIs p ppm → AllPlain (percent_text p)
percent_plain (Grammar.whole ds) ppm h = numeral_plain ds h.0.0
percent_plain (Grammar.pointed ds decimals) ppm h =
    plain-append ds (point ∷ decimals) (numeral_plain ds h.0.0) (plain point refl, numeral_plain decimals h.1.0)

chance_plain : (ch : Option Percent) (ppm : ℕ) → ChanceIs ch ppm → AllPlain (chance_text ch)
chance_plain None ppm h = tt
chance_plain (Some p) ppm h =
    plain-append (percent_text p) (percent_sign ∷ []) (percent_plain p ppm h) (sign_plain percent_sign refl)

count_plain : (ds : Option (List ℕ)) (n : Option ℕ) → CountIs ds n → AllPlain (count_text ds)
count_plain None n h = tt
count_plain (Some ds) None h = absurd h
count_plain (Some ds) (Some n) h = plain-append ds (star ∷ []) (numeral_plain ds h.0) (sign_plain star refl)

head_plain : (w : WrittenTerm) (t : TermValue) → Means w t → AllPlain (head_text w)
head_plain w t m =
    plain-append (chance_text w.chance) (count_text w.count ++ w.word) (chance_plain w.chance t.ppm m.chance)
    (plain-append (count_text w.count) w.word (count_plain w.count t.count m.count)
    (rw m.word (plain_from is_letter (word_of t.task) letter_plain (word_letters t.task))))

-- no `->` and no bad byte
abbrev Clean : List ℕ → Type 0
Clean s = (no_arrow s ≡ true) × AllPlain s

time_clean : (n : ℕ) → n < 2 ^ 64 → Clean (argument_text (Some (decimal n)))
time_clean n h =
    let d = (decimal_number n h).0 in (
      no_arrow_after (opening_parenthesis ∷ decimal n) (closing_parenthesis ∷ []) (digits_lack dash (decimal n) refl d)
          refl,
      (
        plain opening_parenthesis refl,
        plain-append (decimal n) (closing_parenthesis ∷ []) (numeral_plain (decimal n) d)
            (sign_plain closing_parenthesis refl),
      ),
    )

time_fits : (argument : Option (List ℕ)) (n : ℕ) → TimeIs argument n → n < 2 ^ 64
time_fits None n h = absurd h
time_fits (Some ds) n h = h.2

same_clean : (a b : Option (List ℕ)) → a ≡ b → Clean (argument_text a) → Clean (argument_text b)
same_clean a b e h = subst (λ (x : Option (List ℕ)). Clean (argument_text x)) e h

argument_clean : (argument : Option (List ℕ)) (task : TaskValue) → ArgumentIs argument task
    → Clean (argument_text argument) → Clean (argument_text (argument_of task))
argument_clean argument off h c = (refl, tt)
argument_clean argument («return» text) h c = same_clean argument text h c
argument_clean argument (sleep n) h c = time_clean n (time_fits argument n h)
argument_clean argument (panic text) h c = same_clean argument text h c
argument_clean argument (print text) h c = same_clean argument text h c
argument_clean argument pause h c = (refl, tt)
argument_clean argument yield h c = (refl, tt)
argument_clean argument (delay n) h c = time_clean n (time_fits argument n h)

-- the argument of a clean piece
argument_in : (w : WrittenTerm) → Clean (written_text w) → Clean (argument_text w.argument)
argument_in w h =
    let whole : written_text w ≡ (replicate w.before space ++ head_text w) ++
    (argument_text w.argument ++ replicate w.after space) =
    ap (λ (x : List ℕ). replicate w.before space ++ (x ++ replicate w.after space)) (core_is w)
    ∙ ap (λ (x : List ℕ). replicate w.before space ++ x)
    (append_assoc (head_text w) (argument_text w.argument) (replicate w.after space))
    ∙ sym (append_assoc (replicate w.before space) (head_text w)
    (argument_text w.argument ++ replicate w.after space)) in
    let k : Clean ((replicate w.before space ++ head_text w) ++ (argument_text w.argument ++ replicate w.after space)) =
    subst Clean whole h in
    let back =
    no_arrow_back (replicate w.before space ++ head_text w) (argument_text w.argument ++ replicate w.after space) k.0 in
    let plains =
    plain_back (replicate w.before space ++ head_text w) (argument_text w.argument ++ replicate w.after space) k.1 in (
      no_arrow_front (argument_text w.argument) (replicate w.after space) back,
      plain_front (argument_text w.argument)
          (replicate w.after space) plains,
    )

term_clean : (w : WrittenTerm) (t : TermValue) → Means w t → Clean (written_text w) → Clean (term_text t)
term_clean w t m h =
    let n = canonical_means w t m in
    let c = argument_clean w.argument t.task m.argument (argument_in w h) in
    let v = canonical_term t in
    let both : Clean (head_text v ++ argument_text (argument_of t.task)) = (
      no_arrow_after (head_text v) (argument_text (argument_of t.task)) (head_lacks dash v t n refl refl refl refl refl)
          c.0,
      plain-append (head_text v) (argument_text (argument_of t.task)) (head_plain v t n) c.1,
    ) in
    subst Clean (sym (core_is v)) both

-- the canonical text of a term spells it
term_spells : (w : WrittenTerm) (t : TermValue) → Means w t → SpellsTerm (term_text t) t
term_spells w t m = (canonical_term t, canonical_means w t m, sym (append-nil (term_text t)))

each_canonical : (ps : List (List ℕ)) (ts : List TermValue) → SpellEach ps ts → AllPlain (with_arrows ps)
    → SpellEach (map term_text ts) ts × AllPlain (canonical ts)
each_canonical [] [] h k = (tt, tt)
each_canonical [] (t ∷ ts) h k = absurd h
each_canonical (p ∷ ps) [] h k = absurd h
each_canonical (p ∷ []) (t ∷ []) h k =
    let c = term_clean h.1.0 t h.1.1 (subst Clean h.1.2 (no_arrow_from p h.0, k)) in
    ((lacks_arrow (term_text t) c.0, term_spells h.1.0 t h.1.1, tt), c.1)
each_canonical (p ∷ []) (t ∷ u ∷ ts) h k = absurd h.2
each_canonical (p ∷ q ∷ ps) (t ∷ []) h k = absurd h.2
each_canonical (p ∷ q ∷ ps) (t ∷ u ∷ ts) h k =
    let front = plain_front p (dash ∷ greater_sign ∷ with_arrows (q ∷ ps)) k in
    let back = plain_back p (dash ∷ greater_sign ∷ with_arrows (q ∷ ps)) k in
    let c = term_clean h.1.0 t h.1.1 (subst Clean h.1.2 (no_arrow_from p h.0, front)) in
    let others = each_canonical (q ∷ ps) (u ∷ ts) h.2 back.1.1 in (
      (lacks_arrow (term_text t) c.0, term_spells h.1.0 t h.1.1, others.0),
      plain-append (term_text t)
          (dash ∷ greater_sign ∷ canonical (u ∷ ts)) c.1 (plain dash refl, (plain greater_sign refl, others.1)),
    )

pub canonical_spells : (text : List ℕ) (ts : List TermValue) → SpellsActions text ts → SpellsActions (canonical ts) ts
canonical_spells text ts h =
    let e = each_canonical h.pieces.0 ts h.pieces.1 (subst AllPlain h.pieces.2 h.plain) in
    record {
      short = omega (arith, canonical_shortest text ts h, h.short);
      plain = e.1;
      some = h.some;
      few = h.few;
      pieces = (map term_text ts, e.0, refl);
    }
