-- What is spelled is read.
use Rattle.std.proofs.Common.{◌≡◌, ◌≢◌, ℕ, suc, ◌+◌, ◌-◌, ◌*◌, ◌^◌, ◌<◌, ◌≤◌, Bool, true, false, eqb, ltb, leb, not, ◌&&◌, List, [], ◌∷◌, ◌++◌, length, get_or, take, replicate, Option, Some, None, Ok, refl, sym, ap, subst, ◌∙◌, arith, append_assoc, length-append}
use Rattle.std.specs.Prelude.{position, ◌||◌}
use Rattle.std.specs.Char.{is_ascii_digit}
use Rattle.std.specs.List.{AllByRecursion, position_or_len, list_all}
use Rattle.std.specs.Str.Parse.{IsNumeral, digits_value}
use Rattle.std.proofs.lemmas.Bool.{lt-ltb, le-ltb, le-leb, eq-eqb, ne_eqb, and_parts, or_from}
use Rattle.std.proofs.lemmas.List.{append-nil, take_at, get_or_at, same_from_push, length_push}
use Rattle.actions.specs.Value.{TaskValue, off, «return», sleep, panic, print, pause, yield, delay, TermValue}
use Rattle.actions.specs.Numbers.{number_at, short_number_at, decimals_at, percent_at, four_decimals}
use Rattle.actions.specs.Reading.{argument_at, chance_at, count_at, time_at, task_at, term_at, terms_at, trimmed_text, is_bad_byte, reading, pieces}
use Rattle.actions.specs.Grammar
use Rattle.actions.specs.Grammar.{Percent, percent_text, PercentIs, chance_text, ChanceIs, count_text, CountIs, word_of, argument_text, TimeIs, ArgumentIs, WrittenTerm, core_text, written_text, Means, SpellsTerm, SpellEach, SpellsActions, IsPlain, IsShort, IsNumber}
use Rattle.actions.proofs.NumberLemmas.{own}
use Rattle.actions.proofs.ByteLemmas.{lacks, lacks-append, lacks_from, has_none, has_at, before_at, after_at}
use Rattle.actions.proofs.TrimLemmas.{trimmed_between}
use Rattle.actions.specs.Bytes.{closing_parenthesis, delete, opening_parenthesis, percent_sign, point, semicolon, space, star}
use Rattle.actions.proofs.PieceLemmas.{NoArrows, no_arrow_from, pieces_joined}

-- ---- numbers

pub number_complete : (ds : List ℕ) (n : ℕ) → IsNumber ds n → number_at ds ≡ Some n
unfolding number_at
number_complete ds n h =
    let below : digits_value 10 ds < 2 ^ 64 = rw (← h.1) h.2 in
    rw (own.from ds h.0.1, lt-ltb 0 (length ds) h.0.0, lt-ltb (digits_value 10 ds) (2 ^ 64) below) (ap Some (sym h.1))

short_complete : (most : ℕ) (ds : List ℕ) → IsShort most ds → short_number_at most ds ≡ Some (digits_value 10 ds)
unfolding short_number_at
short_complete most ds h = rw (own.from ds h.0.1, lt-ltb 0 (length ds) h.0.0, le-leb (length ds) most h.1) refl

decimals_complete : (ds : List ℕ) → IsShort 4 ds → decimals_at ds ≡ Some (digits_value 10 (four_decimals ds))
unfolding decimals_at
decimals_complete ds h = rw (short_complete 4 ds h) refl

pub digits_lack : (c : ℕ) (ds : List ℕ) → is_ascii_digit c ≡ false → IsNumeral 10 ds → lacks c ds ≡ true
digits_lack c ds never h = lacks_from is_ascii_digit c ds never (own.from ds h.1)

percent_complete : (p : Percent) (ppm : ℕ) → PercentIs p ppm → percent_at (percent_text p) ≡ Some ppm
unfolding percent_at
percent_complete (Grammar.whole ds) ppm h =
    let le : digits_value 10 ds * 10000 ≤ 1000000 = omega (arith, h.1, h.2) in
    rw (
      has_none point ds (digits_lack point ds refl h.0.0),
      short_complete 3 ds h.0,
      le-leb (digits_value 10 ds * 10000) 1000000 le,
    ) (ap Some (sym h.1))
percent_complete (Grammar.pointed ds decimals) ppm h =
    let absent = digits_lack point ds refl h.0.0 in
    let le : digits_value 10 ds * 10000 + digits_value 10 (four_decimals decimals) ≤ 1000000 =
    omega (arith, h.2, h.3) in
    rw (
      has_at point ds decimals absent,
      before_at point ds decimals absent,
      after_at point ds decimals absent,
      short_complete 3 ds h.0,
      decimals_complete decimals h.1,
      le-leb (digits_value 10 ds * 10000 + digits_value 10 (four_decimals decimals)) 1000000 le,
    ) (ap Some (sym h.2))

-- ---- which bytes the parts of a term lack

percent_lacks : (c : ℕ) (p : Percent) (ppm : ℕ) → is_ascii_digit c ≡ false → eqb point c ≡ false → PercentIs p ppm
    → lacks c (percent_text p) ≡ true
percent_lacks c (Grammar.whole ds) ppm no_digit no_point h = digits_lack c ds no_digit h.0.0
percent_lacks c (Grammar.pointed ds decimals) ppm no_digit no_point h =
    lacks-append c ds (point ∷ decimals) (digits_lack c ds no_digit h.0.0)
    (rw no_point (digits_lack c decimals no_digit h.1.0))

chance_lacks : (c : ℕ) (ch : Option Percent) (ppm : ℕ) → is_ascii_digit c ≡ false → eqb point c ≡ false
    → eqb percent_sign c ≡ false → ChanceIs ch ppm → lacks c (chance_text ch) ≡ true
chance_lacks c None ppm no_digit no_point no_sign h = refl
chance_lacks c (Some p) ppm no_digit no_point no_sign h =
    lacks-append c (percent_text p) (percent_sign ∷ []) (percent_lacks c p ppm no_digit no_point h) (rw no_sign refl)

count_lacks : (c : ℕ) (ds : Option (List ℕ)) (n : Option ℕ) → is_ascii_digit c ≡ false → eqb star c ≡ false
    → CountIs ds n → lacks c (count_text ds) ≡ true
count_lacks c None n no_digit no_star h = refl
count_lacks c (Some ds) None no_digit no_star h = absurd h
count_lacks c (Some ds) (Some n) no_digit no_star h =
    lacks-append c ds (star ∷ []) (digits_lack c ds no_digit h.0) (rw no_star refl)

abbrev pub is_letter : ℕ → Bool
is_letter b = leb 97 b && leb b 122

pub word_letters : (task : TaskValue) → list_all is_letter (word_of task) ≡ true
word_letters off = refl
word_letters («return» a) = refl
word_letters (sleep n) = refl
word_letters (panic a) = refl
word_letters (print a) = refl
word_letters pause = refl
word_letters yield = refl
word_letters (delay n) = refl

word_some : (task : TaskValue) → 0 < length (word_of task)
word_some off = omega arith
word_some («return» a) = omega arith
word_some (sleep n) = omega arith
word_some (panic a) = omega arith
word_some (print a) = omega arith
word_some pause = omega arith
word_some yield = omega arith
word_some (delay n) = omega arith

pub word_lacks : (c : ℕ) (task : TaskValue) → is_letter c ≡ false → lacks c (word_of task) ≡ true
word_lacks c task no_letter = lacks_from is_letter c (word_of task) no_letter (word_letters task)

-- ---- the parts

chance_complete : (k : ℕ) (ch : Option Percent) (ppm : ℕ) (rest : List ℕ) → ChanceIs ch ppm
    → lacks percent_sign rest ≡ true → chance_at k (chance_text ch ++ rest) ≡ Ok (ppm, rest)
unfolding chance_at
chance_complete k None ppm rest h absent = rw (has_none percent_sign rest absent, h) refl
chance_complete k (Some p) ppm rest h absent =
    let there = percent_lacks percent_sign p ppm refl refl h in
    ap (chance_at k) (append_assoc (percent_text p) (percent_sign ∷ []) rest)
    ∙ rw (
      has_at percent_sign (percent_text p) rest there,
      before_at percent_sign (percent_text p) rest there,
      after_at percent_sign (percent_text p) rest there,
      percent_complete p ppm h,
    ) refl

count_complete : (k : ℕ) (ds : Option (List ℕ)) (n : Option ℕ) (rest : List ℕ) → CountIs ds n → lacks star rest ≡ true
    → count_at k (count_text ds ++ rest) ≡ Ok (n, rest)
unfolding count_at
count_complete k None None rest h absent = rw (has_none star rest absent) refl
count_complete k None (Some n) rest h absent = absurd h
count_complete k (Some ds) None rest h absent = absurd h
count_complete k (Some ds) (Some n) rest h absent =
    let there = digits_lack star ds refl h.0 in
    ap (count_at k) (append_assoc ds (star ∷ []) rest)
    ∙ rw (has_at star ds rest there, before_at star ds rest there, after_at star ds rest there, number_complete ds n h)
    refl

closed : (head a : List ℕ)
    → get_or (head ++ opening_parenthesis ∷ (a ++ closing_parenthesis ∷ []))
    (length (head ++ opening_parenthesis ∷ (a ++ closing_parenthesis ∷ [])) - 1) 0 ≡ closing_parenthesis
closed head a =
    let same : head ++ opening_parenthesis ∷ (a ++ closing_parenthesis ∷ []) ≡ (head ++ opening_parenthesis ∷ a) ++
    closing_parenthesis ∷ [] =
    sym (append_assoc head (opening_parenthesis ∷ a) (closing_parenthesis ∷ [])) in
    let n : length ((head ++ opening_parenthesis ∷ a) ++ closing_parenthesis ∷ []) - 1 ≡ length
    (head ++ opening_parenthesis ∷ a) =
    omega (arith, length_push (head ++ opening_parenthesis ∷ a) closing_parenthesis) in
    ap (λ (t : List ℕ). get_or t (length t - 1) 0) same
    ∙ ap (λ (i : ℕ). get_or ((head ++ opening_parenthesis ∷ a) ++ closing_parenthesis ∷ []) i 0) n
    ∙ get_or_at (head ++ opening_parenthesis ∷ a) closing_parenthesis [] 0 (length (head ++ opening_parenthesis ∷ a))
    refl

argument_complete : (k : ℕ) (head : List ℕ) (argument : Option (List ℕ)) → lacks opening_parenthesis head ≡ true
    → argument_at k (head ++ argument_text argument) ≡ Ok (head, argument)
unfolding argument_at
argument_complete k head None absent = ap (argument_at k) (append-nil head) ∙
    rw (has_none opening_parenthesis head absent) refl
argument_complete k head (Some a) absent =
    let inner : take (length (a ++ closing_parenthesis ∷ []) - 1) (a ++ closing_parenthesis ∷ []) ≡ a =
    take_at a (closing_parenthesis ∷ []) (length (a ++ closing_parenthesis ∷ []) - 1)
    (omega (arith, length_push a closing_parenthesis)) in
    rw (
      has_at opening_parenthesis head (a ++ closing_parenthesis ∷ []) absent,
      eq-eqb (get_or (head ++ opening_parenthesis ∷ (a ++ closing_parenthesis ∷ []))
          (length (head ++ opening_parenthesis ∷ (a ++ closing_parenthesis ∷ [])) - 1) 0) closing_parenthesis
          (closed head a),
      before_at opening_parenthesis head (a ++ closing_parenthesis ∷ []) absent,
      after_at opening_parenthesis head (a ++ closing_parenthesis ∷ []) absent,
      inner,
    ) refl

time_complete : (k : ℕ) (argument : Option (List ℕ)) (n : ℕ) → TimeIs argument n → time_at k argument ≡ Ok n
unfolding time_at
time_complete k None n h = absurd h
time_complete k (Some ds) n h = rw (number_complete ds n h) refl

task_complete : (k : ℕ) (argument : Option (List ℕ)) (task : TaskValue) → ArgumentIs argument task
    → task_at k (word_of task) argument ≡ Ok task
unfolding task_at
task_complete k argument off h = refl
task_complete k argument («return» a) h = ap (λ (x : Option (List ℕ)). Ok («return» x)) h
task_complete k argument (sleep n) h = rw (time_complete k argument n h) refl
task_complete k argument (panic a) h = ap (λ (x : Option (List ℕ)). Ok (panic x)) h
task_complete k argument (print a) h = ap (λ (x : Option (List ℕ)). Ok (print x)) h
task_complete k argument pause h = refl
task_complete k argument yield h = refl
task_complete k argument (delay n) h = rw (time_complete k argument n h) refl

-- ---- a term

abbrev pub head_text : WrittenTerm → List ℕ
head_text w = chance_text w.chance ++ (count_text w.count ++ w.word)

pub core_is : (w : WrittenTerm) → core_text w ≡ head_text w ++ argument_text w.argument
core_is w =
    ap (λ (x : List ℕ). chance_text w.chance ++ x)
    (sym (append_assoc (count_text w.count) w.word (argument_text w.argument)))
    ∙ sym (append_assoc (chance_text w.chance) (count_text w.count ++ w.word) (argument_text w.argument))

pub head_lacks : (c : ℕ) (w : WrittenTerm) (t : TermValue) → Means w t → is_ascii_digit c ≡ false → is_letter c ≡ false
    → eqb point c ≡ false → eqb percent_sign c ≡ false → eqb star c ≡ false → lacks c (head_text w) ≡ true
head_lacks c w t m no_digit no_letter no_point no_sign no_star =
    lacks-append c (chance_text w.chance) (count_text w.count ++ w.word)
    (chance_lacks c w.chance t.ppm no_digit no_point no_sign m.chance)
    (lacks-append c (count_text w.count) w.word (count_lacks c w.count t.count no_digit no_star m.count)
    (rw m.word (word_lacks c t.task no_letter)))

term_complete : (k : ℕ) (w : WrittenTerm) (t : TermValue) → Means w t → term_at k (core_text w) ≡ Ok t
unfolding term_at
term_complete k w t m =
    let argument = argument_complete k (head_text w) w.argument
    (head_lacks opening_parenthesis w t m refl refl refl refl refl) in
    let tail_lacks =
    lacks-append percent_sign (count_text w.count) w.word (count_lacks percent_sign w.count t.count refl refl m.count)
    (rw m.word (word_lacks percent_sign t.task refl)) in
    let chance = chance_complete k w.chance t.ppm (count_text w.count ++ w.word) m.chance tail_lacks in
    let count = count_complete k w.count t.count w.word m.count (rw m.word (word_lacks star t.task refl)) in
    let task = task_complete k w.argument t.task m.argument in
    ap (term_at k) (core_is w) ∙ rw (argument, chance, count, m.word, task) refl

-- ---- with spaces round it

head_some : (w : WrittenTerm) (t : TermValue) → Means w t → 0 < length (head_text w)
head_some w t m =
    let some : 0 < length w.word = rw m.word (word_some t.task) in
    omega (
      arith,
      some,
      length-append (chance_text w.chance) (count_text w.count ++ w.word),
      length-append (count_text w.count) w.word,
    )

pub begins_without : (c : ℕ) (xs ys : List ℕ) → lacks c xs ≡ true → 0 < length xs → (rest : List ℕ) →
    xs ++ ys ≢ c ∷ rest
begins_without c [] ys h some = λ rest e. omega (arith, some)
begins_without c (x ∷ xs) ys h some = λ rest e.
    let same : x ≡ c = cc in
    let test = eq-eqb x c same in
    let apart = (and_parts (not (eqb x c)) (lacks c xs) h).0 in
    absurd (let f : not true ≡ true = rw test at apart in cc)

lacks_end : (c : ℕ) (front : List ℕ) → lacks c (front ++ c ∷ []) ≡ true → ⊥
lacks_end c [] h =
    let test = eq-eqb c c refl in
    let apart = (and_parts (not (eqb c c)) true h).0 in
    let f : not true ≡ true = rw test at apart in
    absurd cc
lacks_end c (x ∷ xs) h = lacks_end c xs (and_parts (not (eqb x c)) (lacks c (xs ++ c ∷ [])) h).1

pub ends_without : (c : ℕ) (xs : List ℕ) → lacks c xs ≡ true → (front : List ℕ) → xs ≢ front ++ c ∷ []
ends_without c xs h front e = lacks_end c front (subst (λ (x : List ℕ). lacks c x ≡ true) e h)

core_ends : (head : List ℕ) (argument : Option (List ℕ)) → lacks space head ≡ true → (front : List ℕ)
    → head ++ argument_text argument ≢ front ++ space ∷ []
core_ends head None h front e = ends_without space head h front (sym (append-nil head) ∙ e)
core_ends head (Some a) h front e =
    let pushed : (head ++ opening_parenthesis ∷ a) ++ closing_parenthesis ∷ [] ≡ front ++ space ∷ [] =
    append_assoc head (opening_parenthesis ∷ a) (closing_parenthesis ∷ []) ∙ e in
    omega (arith, (same_from_push (head ++ opening_parenthesis ∷ a) front closing_parenthesis space pushed).1)

pub trimmed_term : (w : WrittenTerm) (t : TermValue) → Means w t → trimmed_text (written_text w) ≡ core_text w
trimmed_term w t m =
    let absent = head_lacks space w t m refl refl refl refl refl in
    let some = head_some w t m in
    trimmed_between w.before w.after (core_text w)
    (λ rest e. begins_without space (head_text w) (argument_text w.argument ++ replicate w.after space) absent some rest
    (sym (append_assoc (head_text w) (argument_text w.argument) (replicate w.after space)) ∙ ap
    (λ (x : List ℕ). x ++ replicate w.after space) (sym (core_is w)) ∙ e))
    (λ front e. core_ends (head_text w) w.argument absent front (sym (core_is w) ∙ e))

piece_complete : (k : ℕ) (piece : List ℕ) (t : TermValue) → SpellsTerm piece t → term_at k (trimmed_text piece) ≡ Ok t
piece_complete k piece t s =
    ap (λ (x : List ℕ). term_at k (trimmed_text x)) s.2 ∙ ap (term_at k) (trimmed_term s.0 t s.1) ∙
    term_complete k s.0 t s.1

terms_complete : (k : ℕ) (ps : List (List ℕ)) (ts : List TermValue) → SpellEach ps ts → terms_at k ps ≡ Ok ts
unfolding terms_at
terms_complete k [] [] h = refl
terms_complete k [] (t ∷ ts) h = absurd h
terms_complete k (p ∷ ps) [] h = absurd h
terms_complete k (p ∷ ps) (t ∷ ts) h = rw (piece_complete k p t h.1, terms_complete (k + 1) ps ts h.2) refl

pub lengths : (ps : List (List ℕ)) (ts : List TermValue) → SpellEach ps ts → length ps ≡ length ts
lengths [] [] h = refl
lengths [] (t ∷ ts) h = absurd h
lengths (p ∷ ps) [] h = absurd h
lengths (p ∷ ps) (t ∷ ts) h = ap suc (lengths ps ts h.2)

pub no_arrows : (ps : List (List ℕ)) (ts : List TermValue) → SpellEach ps ts → NoArrows ps
no_arrows [] ts h = tt
no_arrows (p ∷ ps) [] h = absurd h
no_arrows (p ∷ ps) (t ∷ ts) h = (no_arrow_from p h.0, no_arrows ps ts h.2)

-- ---- the whole text

good : (b : ℕ) → IsPlain b → is_bad_byte b ≡ false
good b h =
    or_from (ltb b space || eqb b delete) (eqb b semicolon)
    (or_from (ltb b space) (eqb b delete) (le-ltb b space h.0) (ne_eqb b delete h.1)) (ne_eqb b semicolon h.2)

all_good : (s : List ℕ) → AllByRecursion IsPlain s → position_or_len is_bad_byte s ≡ length s
all_good [] h = refl
all_good (b ∷ bs) h = rw (good b h.0) (omega (arith, all_good bs h.1))

no_position : (s : List ℕ) → AllByRecursion IsPlain s → position is_bad_byte s ≡ None
no_position s h = rw (le-ltb (position_or_len is_bad_byte s) (length s) (omega (arith, all_good s h))) refl

pub reading_complete : (text : List ℕ) (ts : List TermValue) → SpellsActions text ts → reading text ≡ Ok ts
unfolding reading
reading_complete text ts h =
    let ps = h.pieces.0 in
    let each = h.pieces.1 in
    let same = lengths ps ts each in
    let cut : pieces text ≡ ps =
    ap pieces h.pieces.2 ∙ pieces_joined ps (omega (arith, same, h.some)) (no_arrows ps ts each) in
    rw (
      le-ltb 1024 (length text) h.short,
      no_position text h.plain,
      cut,
      le-ltb 16 (length ps) (omega (arith, same, h.few)),
    ) (terms_complete 0 ps ts each)

-- a text spells one list of terms at most
pub one_value : (text : List ℕ) (ts us : List TermValue) → SpellsActions text ts → SpellsActions text us → ts ≡ us
one_value text ts us h k = let a = reading_complete text ts h in let b = reading_complete text us k in cc
