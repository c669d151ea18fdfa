-- What is read is spelled so.
use Rattle.std.proofs.Common.{◌≡◌, ℕ, suc, ◌+◌, ◌-◌, ◌*◌, ◌^◌, ◌<◌, ◌≤◌, true, false, cond, eqb, ltb, leb, not, ◌&&◌, List, [], ◌∷◌, ◌++◌, length, get_or, take, replicate, Option, Some, None, Result, Ok, Err, refl, sym, ap, subst, ◌∙◌, arith, append_assoc, length-append}
use Rattle.std.specs.Prelude.{codes, bytes_eq, ok_or, option_and_then, position, ◌||◌}
use Rattle.std.specs.List.{AllByRecursion, position_or_len}
use Rattle.std.proofs.lemmas.List.Sums.{prefix_len-le-length}
use Rattle.std.specs.Str.Parse.{IsNumeral, digits_value}
use Rattle.std.proofs.lemmas.Bool.{eqb-true, ltb-true, ltb-false, leb-true, and_parts, not-false, not-true, or_parts, eqb-false}
use Rattle.std.proofs.lemmas.List.{append-nil, take_at}
use Rattle.std.proofs.lemmas.Slice.Eq.{bytes_eq-Decides}
use Rattle.refusals.specs.Refusals.{◌>>=◌}
use Rattle.refusals.proofs.StepLemmas.{bind_ok, gives, ok_is, err_is_ok}
use Rattle.actions.specs.declared.fault.ActionFault.{ActionFault}
use Rattle.actions.specs.declared.fault.ActionFault.TheVariants as faults
use Rattle.actions.specs.Value.{TaskValue, off, «return», sleep, panic, print, pause, yield, delay, TermValue}
use Rattle.actions.specs.Numbers.{are_digits, number_at, short_number_at, decimals_at, percent_at, four_decimals}
use Rattle.actions.specs.Bytes.{has_byte, text_before, text_after, closing_parenthesis, delete, opening_parenthesis, percent_sign, point, semicolon, space, star}
use Rattle.actions.specs.Reading.{argument_at, chance_at, count_at, time_at, task_at, term_at, terms_at, trimmed_text, is_bad_byte, unless_bad_byte, reading, pieces}
use Rattle.actions.specs.Grammar
use Rattle.actions.specs.Grammar.{Percent, percent_text, PercentIs, chance_text, ChanceIs, count_text, CountIs, word_of, argument_text, TimeIs, ArgumentIs, WrittenTerm, core_text, written_text, Means, SpellsTerm, SpellEach, SpellsActions, IsPlain, IsShort, IsNumber}
use Rattle.actions.proofs.NumberLemmas.{own, guard_some, short_parts}
use Rattle.actions.proofs.ByteLemmas.{branch, refuse_ok, parts_at}
use Rattle.actions.proofs.TermLemmas.{last_of}
use Rattle.actions.proofs.TrimLemmas.{trimmed_parts}
use Rattle.actions.proofs.PieceLemmas.{NoArrows, lacks_arrow, none_in_pieces, some_pieces, joined_pieces}

-- ---- numbers

numeral : (ds : List ℕ) → are_digits ds ≡ true → 0 < length ds → IsNumeral 10 ds
numeral ds d some = (some, own.to ds d)

pub number_sound : (ds : List ℕ) (n : ℕ) → number_at ds ≡ Some n → IsNumber ds n
unfolding number_at
number_sound ds n e =
    let a =
    guard_some (are_digits ds && ltb 0 (length ds) && ltb (digits_value 10 ds) (2 ^ 64)) (digits_value 10 ds) n e in
    let b = and_parts (are_digits ds && ltb 0 (length ds)) (ltb (digits_value 10 ds) (2 ^ 64)) a.0 in
    let c = and_parts (are_digits ds) (ltb 0 (length ds)) b.0 in
    let below : digits_value 10 ds < 2 ^ 64 = ltb-true (digits_value 10 ds) (2 ^ 64) b.1 in
    (numeral ds c.0 (ltb-true 0 (length ds) c.1), sym a.1, rw (← a.1) below)

short_sound : (most : ℕ) (ds : List ℕ) (n : ℕ) → short_number_at most ds ≡ Some n
    → IsShort most ds × (digits_value 10 ds ≡ n)
short_sound most ds n e = let p = short_parts most ds n e in ((numeral ds p.0 p.1, p.2), p.3)

some_bind : {A B : Type 0} (o : Option A) (f : A → Option B) (y : B) → option_and_then f o ≡ Some y
    → (x : A) × (o ≡ Some x) × (f x ≡ Some y)
some_bind (Some x) f y e = (x, refl, e)
some_bind None f y e = absurd cc

decimals_sound : (ds : List ℕ) (n : ℕ) → decimals_at ds ≡ Some n →
    IsShort 4 ds × (digits_value 10 (four_decimals ds) ≡ n)
unfolding decimals_at
decimals_sound ds n e =
    let a = some_bind (short_number_at 4 ds) (λ _. Some (digits_value 10 (four_decimals ds))) n e in
    let same : digits_value 10 (four_decimals ds) ≡ n = let f = a.2 in cc in
    ((short_sound 4 ds a.0 a.1).0, same)

-- a percentage is at most all parts
capped : (n ppm : ℕ) → cond (leb n 1000000) (Some n) None ≡ Some ppm → (ppm ≡ n) × (ppm ≤ 1000000)
capped n ppm e =
    let g = guard_some (leb n 1000000) n ppm e in
    let le = leb-true n 1000000 g.0 in
    (sym g.1, omega (arith, g.1))

pub percent_sound : (text : List ℕ) (ppm : ℕ) → percent_at text ≡ Some ppm
    → (p : Percent) × PercentIs p ppm × (text ≡ percent_text p)
unfolding percent_at
percent_sound text ppm e =
    branch (not (has_byte point text)) _ _ _
    (λ lacking given.
    let a =
    some_bind (short_number_at 3 text) (λ n. cond (leb (n * 10000) 1000000) (Some (n * 10000)) None) ppm given in
    let s = short_sound 3 text a.0 a.1 in
    let c = capped (a.0 * 10000) ppm a.2 in
    let value : ppm ≡ digits_value 10 text * 10000 = c.0 ∙ ap (λ n. n * 10000) (sym s.1) in
    (Grammar.whole text, (s.0, value, c.1), refl))
    (λ there given.
    let a =
    some_bind (short_number_at 3 (text_before point text))
    (λ n. option_and_then (λ part. cond (leb (n * 10000 + part) 1000000) (Some (n * 10000 + part)) None)
    (decimals_at (text_after point text))) ppm given in
    let b =
    some_bind (decimals_at (text_after point text))
    (λ part. cond (leb (a.0 * 10000 + part) 1000000) (Some (a.0 * 10000 + part)) None) ppm a.2 in
    let s = short_sound 3 (text_before point text) a.0 a.1 in
    let d = decimals_sound (text_after point text) b.0 b.1 in
    let c = capped (a.0 * 10000 + b.0) ppm b.2 in
    let value : ppm ≡ digits_value 10 (text_before point text) * 10000 + digits_value 10
    (four_decimals (text_after point text)) =
    omega (arith, c.0, s.1, d.1) in (
      Grammar.pointed (text_before point text) (text_after point text),
      (s.0, d.0, value, c.1),
      parts_at point text
          (not-false (has_byte point text) there),
    ))
    e

-- ---- the parts of a term

argument_sound : (k : ℕ) (text head : List ℕ) (argument : Option (List ℕ)) → argument_at k text ≡ Ok (head, argument)
    → text ≡ head ++ argument_text argument
unfolding argument_at
argument_sound k text head argument e =
    branch (not (has_byte opening_parenthesis text)) _ _ _
    (λ lacking given.
    let same = ok_is (text, None) (head, argument) given in
    subst (λ (p : List ℕ × Option (List ℕ)). text ≡ p.0 ++ argument_text p.1) same (sym (append-nil text)))
    (λ there given.
    let parts = parts_at opening_parenthesis text (not-false (has_byte opening_parenthesis text) there) in
    let a = text_after opening_parenthesis text in
    branch (eqb (get_or text (length text - 1) 0) closing_parenthesis) _ _ _
    (λ closed found.
    let last = eqb-true (get_or text (length text - 1) 0) closing_parenthesis closed in
    let l = last_of (text_before opening_parenthesis text) a
    (subst (λ (t : List ℕ). get_or t (length t - 1) 0 ≡ closing_parenthesis) parts last) in
    let inner : take (length a - 1) a ≡ l.0 =
    ap (λ (x : List ℕ). take (length x - 1) x) l.1
    ∙ take_at l.0 (closing_parenthesis ∷ []) (length (l.0 ++ closing_parenthesis ∷ []) - 1)
    (omega (arith, length-append l.0 (closing_parenthesis ∷ []))) in
    let whole : text ≡ text_before opening_parenthesis text ++ argument_text (Some (take (length a - 1) a)) =
    parts
    ∙ ap (λ (x : List ℕ). text_before opening_parenthesis text ++ opening_parenthesis ∷ x)
    (l.1 ∙ ap (λ (x : List ℕ). x ++ closing_parenthesis ∷ []) (sym inner)) in
    subst (λ (p : List ℕ × Option (List ℕ)). text ≡ p.0 ++ argument_text p.1)
    (ok_is (text_before opening_parenthesis text, Some (take (length a - 1) a)) (head, argument) found) whole)
    (λ unclosed found. err_is_ok (faults.Unclosed k) (head, argument) found)
    given)
    e

chance_sound : (k : ℕ) (head : List ℕ) (ppm : ℕ) (rest : List ℕ) → chance_at k head ≡ Ok (ppm, rest)
    → (ch : Option Percent) × ChanceIs ch ppm × (head ≡ chance_text ch ++ rest)
unfolding chance_at
chance_sound k head ppm rest e =
    branch (not (has_byte percent_sign head)) _ _ _
    (λ lacking given.
    subst (λ (p : ℕ × List ℕ). (ch : Option Percent) × ChanceIs ch p.0 × (head ≡ chance_text ch ++ p.1))
    (ok_is (1000000, head) (ppm, rest) given) (None, refl, refl))
    (λ there given.
    let parts = parts_at percent_sign head (not-false (has_byte percent_sign head) there) in
    let b =
    bind_ok (ok_or (percent_at (text_before percent_sign head)) (faults.BadPercent k))
    (λ n. Ok (n, text_after percent_sign head)) (ppm, rest) given in
    let p =
    percent_sound (text_before percent_sign head) b.0
    (refuse_ok (faults.BadPercent k) (percent_at (text_before percent_sign head)) b.0 b.1) in
    let whole : head ≡ chance_text (Some p.0) ++ text_after percent_sign head =
    parts ∙ ap (λ (x : List ℕ). x ++ percent_sign ∷ text_after percent_sign head) p.2
    ∙ sym (append_assoc (percent_text p.0) (percent_sign ∷ []) (text_after percent_sign head)) in
    subst (λ (q : ℕ × List ℕ). (ch : Option Percent) × ChanceIs ch q.0 × (head ≡ chance_text ch ++ q.1))
    (ok_is (b.0, text_after percent_sign head) (ppm, rest) b.2) (Some p.0, p.1, whole))
    e

count_sound : (k : ℕ) (head : List ℕ) (n : Option ℕ) (rest : List ℕ) → count_at k head ≡ Ok (n, rest)
    → (ds : Option (List ℕ)) × CountIs ds n × (head ≡ count_text ds ++ rest)
unfolding count_at
count_sound k head n rest e =
    branch (not (has_byte star head)) _ _ _
    (λ lacking given.
    subst (λ (p : Option ℕ × List ℕ). (ds : Option (List ℕ)) × CountIs ds p.0 × (head ≡ count_text ds ++ p.1))
    (ok_is (None, head) (n, rest) given) (None, tt, refl))
    (λ there given.
    let parts = parts_at star head (not-false (has_byte star head) there) in
    let b =
    bind_ok (ok_or (number_at (text_before star head)) (faults.BadCount k)) (λ n. Ok (Some n, text_after star head))
    (n, rest) given in
    let p =
    number_sound (text_before star head) b.0 (refuse_ok (faults.BadCount k) (number_at (text_before star head)) b.0
    b.1) in
    let whole : head ≡ count_text (Some (text_before star head)) ++ text_after star head =
    parts ∙ sym (append_assoc (text_before star head) (star ∷ []) (text_after star head)) in
    subst (λ (q : Option ℕ × List ℕ). (ds : Option (List ℕ)) × CountIs ds q.0 × (head ≡ count_text ds ++ q.1))
    (ok_is (Some b.0, text_after star head) (n, rest) b.2) (Some (text_before star head), p, whole))
    e

time_sound : (k : ℕ) (argument : Option (List ℕ)) (n : ℕ) → time_at k argument ≡ Ok n → TimeIs argument n
unfolding time_at
time_sound k None n e = err_is_ok (faults.NeedsTime k) n e
time_sound k (Some text) n e = number_sound text n (refuse_ok (faults.BadTime k) (number_at text) n e)

-- the word and the argument are those of the task
abbrev Fits : List ℕ → Option (List ℕ) → TaskValue → Type 0
Fits word argument task = (word ≡ word_of task) × ArgumentIs argument task

is_word : (word w : List ℕ) → bytes_eq word w ≡ true → word ≡ w
is_word word w e = (bytes_eq-Decides word w).0 e

made : (word : List ℕ) (argument : Option (List ℕ)) (a task : TaskValue) → bytes_eq word (word_of a) ≡ true
    → ArgumentIs argument a → Ok a ≡ gives ActionFault task → Fits word argument task
made word argument a task e h given = subst (Fits word argument) (ok_is a task given) (is_word word (word_of a) e, h)

task_sound : (k : ℕ) (word : List ℕ) (argument : Option (List ℕ)) (task : TaskValue) → task_at k word argument ≡ Ok task
    → Fits word argument task
unfolding task_at
task_sound k word argument task e =
    branch (eqb (length word) 0) _ _ _ (λ _ g. err_is_ok (faults.NoTask k) task g) (λ _ g.
    branch (bytes_eq word (codes "off")) _ _ _ (λ t g. made word argument off task t tt g) (λ _ g.
    branch (bytes_eq word (codes "return")) _ _ _ (λ t g. made word argument («return» argument) task t refl g) (λ _ g.
    branch (bytes_eq word (codes "sleep")) _ _ _ (λ t g.
    let b = bind_ok (time_at k argument) (λ n. Ok (sleep n)) task g in
    made word argument (sleep b.0) task t (time_sound k argument b.0 b.1) b.2) (λ _ g.
    branch (bytes_eq word (codes "panic")) _ _ _ (λ t g. made word argument (panic argument) task t refl g) (λ _ g.
    branch (bytes_eq word (codes "print")) _ _ _ (λ t g. made word argument (print argument) task t refl g) (λ _ g.
    branch (bytes_eq word (codes "pause")) _ _ _ (λ t g. made word argument pause task t tt g) (λ _ g.
    branch (bytes_eq word (codes "yield")) _ _ _ (λ t g. made word argument yield task t tt g) (λ _ g.
    branch (bytes_eq word (codes "delay")) _ _ _ (λ t g.
    let b = bind_ok (time_at k argument) (λ n. Ok (delay n)) task g in
    made word argument (delay b.0) task t (time_sound k argument b.0 b.1) b.2) (λ _ g.
    err_is_ok (faults.UnknownTask k) task g)
    g) g) g) g) g) g) g) g) e

term_sound : (k : ℕ) (text : List ℕ) (t : TermValue) → term_at k text ≡ Ok t
    → (w : WrittenTerm) × Means w t × (text ≡ core_text w)
unfolding term_at
term_sound k text t e =
    let a = bind_ok (argument_at k text) (λ parts. do
      chance ← chance_at k parts.0
      count ← count_at k chance.1
      task ← task_at k count.1 parts.1
      Ok (record { ppm = chance.0; count = count.0; task = task })) t e in
    let b = bind_ok (chance_at k a.0.0) (λ chance. do
      count ← count_at k chance.1
      task ← task_at k count.1 a.0.1
      Ok (record { ppm = chance.0; count = count.0; task = task })) t a.2 in
    let c = bind_ok (count_at k b.0.1) (λ count. do
      task ← task_at k count.1 a.0.1
      Ok (record { ppm = b.0.0; count = count.0; task = task })) t b.2 in
    let d = bind_ok (task_at k c.0.1 a.0.1) (λ task. Ok (record { ppm = b.0.0; count = c.0.0; task = task })) t c.2 in
    let argument = argument_sound k text a.0.0 a.0.1 a.1 in
    let chance = chance_sound k a.0.0 b.0.0 b.0.1 b.1 in
    let count = count_sound k b.0.1 c.0.0 c.0.1 c.1 in
    let task = task_sound k c.0.1 a.0.1 d.0 d.1 in
    let w : WrittenTerm =
    record { before = 0; chance = chance.0; count = count.0; word = c.0.1; argument = a.0.1; after = 0 } in
    let made : TermValue = record { ppm = b.0.0; count = c.0.0; task = d.0 } in
    let means : Means w made = record { chance = chance.1; count = count.1; word = task.0; argument = task.1 } in
    let heads : a.0.0 ≡ chance_text chance.0 ++ (count_text count.0 ++ c.0.1) =
    chance.2 ∙ ap (λ (x : List ℕ). chance_text chance.0 ++ x) count.2 in
    let whole : text ≡ core_text w = argument ∙ ap (λ (x : List ℕ). x ++ argument_text a.0.1) heads
    ∙ append_assoc (chance_text chance.0) (count_text count.0 ++ c.0.1) (argument_text a.0.1)
    ∙ ap (λ (x : List ℕ). chance_text chance.0 ++ x) (append_assoc (count_text count.0) c.0.1 (argument_text a.0.1)) in
    subst (λ (u : TermValue). (v : WrittenTerm) × Means v u × (text ≡ core_text v)) (ok_is made t d.2) (w, means, whole)

-- with spaces round it
piece_sound : (k : ℕ) (piece : List ℕ) (t : TermValue) → term_at k (trimmed_text piece) ≡ Ok t → SpellsTerm piece t
piece_sound k piece t e =
    let s = term_sound k (trimmed_text piece) t e in
    let p = trimmed_parts piece in
    let w : WrittenTerm = record s.0 { before = p.0; after = p.1 } in
    let means : Means w t = record {
      chance = s.1.chance;
      count = s.1.count;
      word = s.1.word;
      argument =
          s.1.argument;
    } in
    (w, means, p.2 ∙ ap (λ (x : List ℕ). replicate p.0 space ++ (x ++ replicate p.1 space)) s.2)

terms_sound : (k : ℕ) (ps : List (List ℕ)) (ts : List TermValue) → NoArrows ps → terms_at k ps ≡ Ok ts
    → SpellEach ps ts × (length ps ≡ length ts)
unfolding terms_at
terms_sound k [] ts h e =
    subst (λ (us : List TermValue). SpellEach [] us × (length {A = List ℕ} [] ≡ length us)) (ok_is [] ts e) (tt, refl)
terms_sound k (p ∷ ps) ts h e =
    let a = bind_ok (term_at k (trimmed_text p)) (λ first. terms_at (k + 1) ps >>= λ rest. Ok (first ∷ rest)) ts e in
    let b = bind_ok (terms_at (k + 1) ps) (λ rest. Ok (a.0 ∷ rest)) ts a.2 in
    let others = terms_sound (k + 1) ps b.0 h.1 b.1 in
    subst (λ (us : List TermValue). SpellEach (p ∷ ps) us × (suc (length ps) ≡ length us)) (ok_is (a.0 ∷ b.0) ts b.2)
    ((lacks_arrow p h.0, piece_sound k p a.0 a.1, others.0), ap suc others.1)

-- ---- the whole text

pub plain : (b : ℕ) → is_bad_byte b ≡ false → IsPlain b
plain b h =
    let p = or_parts (ltb b space || eqb b delete) (eqb b semicolon) h in
    let q = or_parts (ltb b space) (eqb b delete) p.0 in
    (ltb-false b space q.0, eqb-false b delete q.1, eqb-false b semicolon p.1)

all_plain : (s : List ℕ) → position_or_len is_bad_byte s ≡ length s → AllByRecursion IsPlain s
all_plain [] e = tt
all_plain (b ∷ bs) e =
    branch (not (is_bad_byte b)) _ _ _
    (λ good len. (plain b (not-true (is_bad_byte b) good), all_plain bs (omega (arith, len))))
    (λ _ none. absurd (omega (arith, none)))
    e

not_barred : (o : Option ℕ) (read : Result (List TermValue) ActionFault) (ts : List TermValue) →
    unless_bad_byte o read ≡ Ok ts
    → (o ≡ None) × (read ≡ Ok ts)
not_barred (Some i) read ts e = err_is_ok (faults.BadByte i) ts e
not_barred None read ts e = (refl, e)

no_place : (s : List ℕ) → position is_bad_byte s ≡ None → position_or_len is_bad_byte s ≡ length s
no_place s e =
    branch (ltb (position_or_len is_bad_byte s) (length s)) _ _ _
    (λ _ some. absurd cc)
    (λ beyond _. omega (
      arith,
      ltb-false (position_or_len is_bad_byte s) (length s) beyond,
      prefix_len-le-length (λ b. not (is_bad_byte b)) s,
    ))
    e

pub reading_sound : (text : List ℕ) (ts : List TermValue) → reading text ≡ Ok ts → SpellsActions text ts
unfolding reading
reading_sound text ts e =
    branch (ltb 1024 (length text)) _ _ _
    (λ _ g. err_is_ok faults.TooLong ts g)
    (λ short g.
    let b =
    not_barred (position is_bad_byte text)
    (cond (ltb 16 (length (pieces text))) (Err faults.TooManyTerms) (terms_at 0 (pieces text))) ts g in
    branch (ltb 16 (length (pieces text))) _ _ _
    (λ _ m. err_is_ok faults.TooManyTerms ts m)
    (λ few m.
    let s = terms_sound 0 (pieces text) ts (none_in_pieces text) m in
    record {
      short = ltb-false 1024 (length text) short;
      plain = all_plain text (no_place text b.0);
      some = omega (arith, some_pieces text, s.1);
      few = omega (arith, ltb-false 16 (length (pieces text)) few, s.1);
      pieces = (pieces text, s.0, sym (joined_pieces text));
    })
    b.1)
    e
