-- What is spelled in a setting text is read.
use Rattle.std.proofs.Common.{◌≡◌, ◌≢◌, ℕ, zero, suc, ◌+◌, ◌<◌, true, false, eqb, ltb, leb, not, ◌&&◌, List, [], ◌∷◌, ◌++◌, length, get_or, take, map, replicate, Ok, refl, sym, ap, ◌∙◌, arith, append_assoc, length-append}
use Rattle.std.specs.List.{AllByRecursion, filter, slice_split, join_with_byte, list_all}
use Rattle.std.proofs.lemmas.Bool.{le-ltb, lt-ltb, eq-eqb, ne_eqb, and_parts, and_from, not-true, ltb-true}
use Rattle.std.proofs.lemmas.List.{append-nil, same_from_push}
use Rattle.actions.specs.Bytes.{equals_sign, semicolon, space}
use Rattle.actions.specs.Names.{is_name, is_name_byte}
use Rattle.actions.specs.Grammar.{IsPlain, SpellsActions}
use Rattle.actions.specs.Reading.{trimmed_text}
use Rattle.actions.specs.SettingGrammar.{Entry, blank, setting, entry_text, EndsBare, SetEach, SpellsSetting}
use Rattle.actions.specs.SettingReading.{entry_at, entries_at, entries, setting_reading}
use Rattle.actions.proofs.ByteLemmas.{lacks, lacks-append, lacks_from, has_at, before_at, after_at}
use Rattle.actions.proofs.TermLemmas.{split_last}
use Rattle.actions.proofs.TrimLemmas.{trimmed_between}
use Rattle.actions.proofs.Complete.{begins_without, reading_complete}
use Rattle.actions.proofs.EntryLemmas.{Point, nonempty}

-- ---- cutting what was joined

split_none : (c : ℕ) (xs : List ℕ) → lacks c xs ≡ true → slice_split (λ b. eqb b c) xs ≡ xs ∷ []
split_none c [] h = refl
split_none c (x ∷ xs) h =
    let a = and_parts (not (eqb x c)) (lacks c xs) h in
    rw (not-true (eqb x c) a.0, split_none c xs a.1) refl

split_first : (c : ℕ) (xs ys : List ℕ) → lacks c xs ≡ true
    → slice_split (λ b. eqb b c) (xs ++ c ∷ ys) ≡ xs ∷ slice_split (λ b. eqb b c) ys
split_first c [] ys h = rw (eq-eqb c c refl) refl
split_first c (x ∷ xs) ys h =
    let a = and_parts (not (eqb x c)) (lacks c xs) h in
    rw (not-true (eqb x c) a.0, split_first c xs ys a.1) refl

-- no part has the byte
abbrev AllLack : ℕ → List (List ℕ) → Type 0
AllLack c [] = Unit {0}
AllLack c (p ∷ ps) = (lacks c p ≡ true) × AllLack c ps

split_joined : (c : ℕ) (p : List ℕ) (ps : List (List ℕ)) → AllLack c (p ∷ ps)
    → slice_split (λ b. eqb b c) (join_with_byte c (p ∷ ps)) ≡ p ∷ ps
split_joined c p [] h = split_none c p h.0
split_joined c p (q ∷ ps) h =
    split_first c p (join_with_byte c (q ∷ ps)) h.0
    ∙ ap (λ (x : List (List ℕ)). p ∷ x) (split_joined c q ps h.1)

-- ---- one entry

plain_lacks : (s : List ℕ) → AllByRecursion IsPlain s → lacks semicolon s ≡ true
plain_lacks [] h = refl
plain_lacks (b ∷ bs) h =
    and_from (not (eqb b semicolon)) (lacks semicolon bs) (ap not (ne_eqb b semicolon h.0.2)) (plain_lacks bs h.1)

spaces_lack : (c n : ℕ) → eqb space c ≡ false → lacks c (replicate n space) ≡ true
spaces_lack c zero apart = refl
spaces_lack c (suc n) apart = rw apart (spaces_lack c n apart)

name_parts : (name : List ℕ) → is_name name ≡ true → (0 < length name) × (list_all is_name_byte name ≡ true)
name_parts name h =
    let a = and_parts (ltb 0 (length name) && leb (length name) 128) (list_all is_name_byte name) h in
    let b = and_parts (ltb 0 (length name)) (leb (length name) 128) a.0 in
    (ltb-true 0 (length name) b.0, a.1)

name_lacks : (c : ℕ) (name : List ℕ) → is_name_byte c ≡ false → is_name name ≡ true → lacks c name ≡ true
name_lacks c name never h = lacks_from is_name_byte c name never (name_parts name h).1

-- an equals sign and a text that doesn't end in a space
bare_behind : (name text : List ℕ) → EndsBare text → (front : List ℕ)
    → name ++ equals_sign ∷ text ≢ front ++ space ∷ []
bare_behind name [] bare front e = omega (arith, (same_from_push name front equals_sign space e).1)
bare_behind name (t ∷ ts) bare front e =
    let rest = take (length ts) (t ∷ ts) in
    let last = get_or (t ∷ ts) (length ts) 0 in
    let parts : t ∷ ts ≡ rest ++ last ∷ [] = split_last t ts in
    let pushed : (name ++ equals_sign ∷ rest) ++ last ∷ [] ≡ front ++ space ∷ [] =
    append_assoc name (equals_sign ∷ rest) (last ∷ [])
    ∙ ap (λ (x : List ℕ). name ++ equals_sign ∷ x) (sym parts) ∙ e in
    let is_space = (same_from_push (name ++ equals_sign ∷ rest) front last space pushed).1 in
    bare rest (parts ∙ ap (λ (x : ℕ). rest ++ x ∷ []) is_space)

trimmed_setting : (m : ℕ) (name text : List ℕ) (n : ℕ) → is_name name ≡ true → EndsBare text
    → trimmed_text (entry_text (setting m name text n)) ≡ name ++ equals_sign ∷ text
trimmed_setting m name text n named bare =
    let tail = equals_sign ∷ (text ++ replicate n space) in
    ap (λ (x : List ℕ). trimmed_text (replicate m space ++ x))
    (sym (append_assoc name (equals_sign ∷ text) (replicate n space)))
    ∙ trimmed_between m n (name ++ equals_sign ∷ text)
    (λ rest e. begins_without space name tail (name_lacks space name refl named) (name_parts name named).0 rest
    (sym (append_assoc name (equals_sign ∷ text) (replicate n space)) ∙ e))
    (bare_behind name text bare)

entry_complete : (k : ℕ) (name text : List ℕ) (point : Point) → is_name name ≡ true → point.0 ≡ name
    → SpellsActions text point.1 → entry_at k (name ++ equals_sign ∷ text) ≡ Ok point
unfolding entry_at
entry_complete k name text point named same spelled =
    let absent = name_lacks equals_sign name refl named in
    rw (
      has_at equals_sign name text absent,
      before_at equals_sign name text absent,
      after_at equals_sign name text absent,
      named,
      reading_complete text point.1 spelled,
    ) (ap (λ (x : List ℕ). Ok (x, point.1)) (sym same))

-- ---- the entries

trimmed_blank : (n : ℕ) → trimmed_text (replicate n space) ≡ []
trimmed_blank n =
    ap (λ (x : List ℕ). trimmed_text x) (sym (append-nil (replicate n space)))
    ∙ trimmed_between n 0 [] (λ rest e. omega (arith, ap length e))
    (λ front e. omega (arith, ap length e, length-append front (space ∷ [])))

some_setting : (name text : List ℕ) → nonempty (name ++ equals_sign ∷ text) ≡ true
some_setting name text =
    lt-ltb 0 (length (name ++ equals_sign ∷ text)) (omega (arith, length-append name (equals_sign ∷ text)))

parts_complete : (k : ℕ) (es : List Entry) (points : List Point) → SetEach es points
    → entries_at k (filter nonempty (map trimmed_text (map entry_text es))) ≡ Ok points
unfolding entries_at
parts_complete k [] [] h = refl
parts_complete k [] (point ∷ points) h = absurd h
parts_complete k (blank n ∷ es) points h =
    rw (trimmed_blank n) (parts_complete k es points h)
parts_complete k (setting m name text n ∷ es) [] h = absurd h
parts_complete k (setting m name text n ∷ es) (point ∷ points) h =
    rw (
      trimmed_setting m name text n h.0 h.3,
      some_setting name text,
      entry_complete k name text point h.0 h.1 h.2,
      parts_complete (k + 1) es points h.4,
    ) refl

entry_lacks : (m : ℕ) (name text : List ℕ) (n : ℕ) → is_name name ≡ true → AllByRecursion IsPlain text
    → lacks semicolon (entry_text (setting m name text n)) ≡ true
entry_lacks m name text n named plain =
    let spaces = λ (i : ℕ). spaces_lack semicolon i refl in
    lacks-append semicolon (replicate m space) (name ++ equals_sign ∷ (text ++ replicate n space)) (spaces m)
    (lacks-append semicolon name (equals_sign ∷ (text ++ replicate n space)) (name_lacks semicolon name refl named)
    (lacks-append semicolon text (replicate n space) (plain_lacks text plain) (spaces n)))

all_lack : (es : List Entry) (points : List Point) → SetEach es points → AllLack semicolon (map entry_text es)
all_lack [] points h = tt
all_lack (blank n ∷ es) points h = (spaces_lack semicolon n refl, all_lack es points h)
all_lack (setting m name text n ∷ es) [] h = absurd h
all_lack (setting m name text n ∷ es) (point ∷ points) h =
    (entry_lacks m name text n h.0 h.2.plain, all_lack es points h.4)

-- ---- the whole text

entries_complete : (es : List Entry) (points : List Point) → SetEach es points
    → entries_at 0 (entries (join_with_byte semicolon (map entry_text es))) ≡ Ok points
unfolding entries
entries_complete [] [] h = parts_complete 0 (blank 0 ∷ []) [] tt
entries_complete [] (point ∷ points) h = absurd h
entries_complete (e ∷ es) points h =
    ap (λ (x : List (List ℕ)). entries_at 0 (filter nonempty (map trimmed_text x)))
    (split_joined semicolon (entry_text e) (map entry_text es) (all_lack (e ∷ es) points h))
    ∙ parts_complete 0 (e ∷ es) points h

pub setting_complete : (text : List ℕ) (points : List Point) → SpellsSetting text points →
    setting_reading text ≡ Ok points
unfolding setting_reading
setting_complete text points h =
    rw (le-ltb 65536 (length text) h.short)
    (ap (λ (x : List ℕ). entries_at 0 (entries x)) h.entries.2 ∙ entries_complete h.entries.0 points h.entries.1)

-- a text spells one list of points at most
pub one_setting : (text : List ℕ) (ps qs : List Point) → SpellsSetting text ps → SpellsSetting text qs → ps ≡ qs
one_setting text ps qs h k = let a = setting_complete text ps h in let b = setting_complete text qs k in cc
