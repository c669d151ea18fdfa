-- What is read of a setting text is spelled so.
use Rattle.std.proofs.Common.{◌≡◌, ◌≢◌, ℕ, ◌+◌, Bool, true, false, cond, eqb, ltb, not, List, [], ◌∷◌, ◌++◌, length, map, replicate, Ok, refl, sym, ap, subst, ◌∙◌, arith, append_assoc, length-append, inl, inr}
use Rattle.std.specs.Bool.{IsTrue}
use Rattle.std.specs.List.{filter, slice_split, join_with_byte}
use Rattle.std.proofs.lemmas.Bool.{cases_eq, eq-eqb, ne_eqb, not-false, ltb-false}
use Rattle.std.proofs.lemmas.List.{nil_from_length, same_from_push, replicate-append-replicate}
use Rattle.std.proofs.lemmas.List.Splits.{join_with_byte-slice_split}
use Rattle.actions.specs.declared.fault.SettingFault.TheVariants as faults
use Rattle.actions.specs.Bytes.{has_byte, text_before, text_after, onto_kept, without_end, equals_sign, semicolon, space}
use Rattle.actions.specs.Names.{is_name}
use Rattle.actions.specs.Grammar.{SpellsActions}
use Rattle.actions.specs.Reading.{front_trimmed_text, reading, trimmed_text}
use Rattle.actions.specs.SettingGrammar
use Rattle.actions.specs.SettingGrammar.{Entry, entry_text, EndsBare, SetEach, SpellsSetting}
use Rattle.refusals.specs.Refusals.{◌>>=◌}
use Rattle.refusals.proofs.StepLemmas.{bind_ok, ok_is, err_is_ok}
use Rattle.actions.specs.SettingReading.{terms_read, entry_at, entries_at, entries, setting_reading}
use Rattle.actions.proofs.ByteLemmas.{branch, parts_at}
use Rattle.actions.proofs.TrimLemmas.{trimmed_parts}
use Rattle.actions.proofs.Sound.{reading_sound}
use Rattle.actions.proofs.EntryLemmas.{Point, nonempty, terms_ok}

-- ---- what trimming leaves has no space at its end

kept_bare : (c b : ℕ) (kept : List ℕ) → ((front : List ℕ) → kept ≢ front ++ c ∷ []) → (front : List ℕ)
    → onto_kept c b kept ≢ front ++ c ∷ []
kept_bare c b [] bare front e =
    elim (cases_eq b c) [
      | inl same ↦ let nothing : [] ≡ front ++ c ∷ [] = rw (eq-eqb b c same) at e in
          omega (arith, ap length nothing, length-append front (c ∷ []))
      | inr apart ↦ let one : b ∷ [] ≡ front ++ c ∷ [] = rw (ne_eqb b c apart) at e in
          apart (same_from_push [] front b c one).1
    ]
kept_bare c b (x ∷ xs) bare [] e = absurd (omega (arith, ap length e))
kept_bare c b (x ∷ xs) bare (f ∷ fs) e = bare fs cc

without_end_bare : (c : ℕ) (s front : List ℕ) → without_end c s ≢ front ++ c ∷ []
without_end_bare c [] front e = omega (arith, ap length e, length-append front (c ∷ []))
without_end_bare c (b ∷ bs) front e = kept_bare c b (without_end c bs) (without_end_bare c bs) front e

trimmed_bare : (s : List ℕ) → EndsBare (trimmed_text s)
unfolding trimmed_text
trimmed_bare s = without_end_bare space (front_trimmed_text s)

-- ---- one entry

-- what a point says of the name and the text that set it
abbrev Sets : List ℕ → List ℕ → Point → Type 0
Sets name text point = IsTrue (is_name name) × (point.0 ≡ name) × SpellsActions text point.1 × EndsBare text

entry_sound : (k : ℕ) (entry : List ℕ) (point : Point) → EndsBare entry → entry_at k entry ≡ Ok point
    → Sets (text_before equals_sign entry) (text_after equals_sign entry) point
    × (entry ≡ text_before equals_sign entry ++ equals_sign ∷ text_after equals_sign entry)
unfolding entry_at
entry_sound k entry point bare e =
    let name = text_before equals_sign entry in
    let text = text_after equals_sign entry in
    branch (not (has_byte equals_sign entry)) _ _ _
    (λ _ given. err_is_ok (faults.NoEquals k) point given)
    (λ there given.
    let parts = parts_at equals_sign entry (not-false (has_byte equals_sign entry) there) in
    branch (not (is_name name)) _ _ _
    (λ _ found. err_is_ok (faults.BadName k) point found)
    (λ named found.
    let b = bind_ok (terms_read k (reading text)) (λ terms. Ok (name, terms)) point found in
    let s = reading_sound text b.0 (terms_ok k (reading text) b.0 b.1) in
    let bare_text : EndsBare text =
    λ front same. bare (name ++ equals_sign ∷ front) (parts ∙ ap (λ (x : List ℕ). name ++ equals_sign ∷ x) same
    ∙ sym (append_assoc name (equals_sign ∷ front) (space ∷ []))) in
    subst (λ (q : Point). Sets name text q × (entry ≡ name ++ equals_sign ∷ text))
    (ok_is (name, b.0) point b.2) ((not-false (is_name name) named, refl, s, bare_text), parts))
    given)
    e

-- ---- the entries

blank_part : (part : List ℕ) → nonempty (trimmed_text part) ≡ false → (n : ℕ) × (part ≡ replicate n space)
blank_part part empty =
    let p = trimmed_parts part in
    let nothing = nil_from_length (trimmed_text part) (omega (arith, ltb-false 0 (length (trimmed_text part)) empty)) in (
      p.0 + p.1,
      p.2 ∙ ap (λ (x : List ℕ). replicate p.0 space ++ (x ++ replicate p.1 space)) nothing
          ∙ replicate-append-replicate p.0 p.1 space,
    )

-- the parts of a text are written as entries that set the points
abbrev Written : List (List ℕ) → List Point → Type 0
Written parts points = (es : List Entry) × SetEach es points × (parts ≡ map entry_text es)

blank_written : (part : List ℕ) (parts : List (List ℕ)) (points : List Point) → nonempty (trimmed_text part) ≡ false
    → Written parts points → Written (part ∷ parts) points
blank_written part parts points empty others =
    let p = blank_part part empty in (
      SettingGrammar.blank p.0 ∷ others.0,
      others.1,
      ap (λ (x : List ℕ). x ∷ parts) p.1 ∙ ap (λ (x : List (List ℕ)). replicate p.0 space ∷ x) others.2,
    )

set_written : (k : ℕ) (part : List ℕ) (parts : List (List ℕ)) (point : Point) (points : List Point)
    → entry_at k (trimmed_text part) ≡ Ok point → Written parts points → Written (part ∷ parts) (point ∷ points)
set_written k part parts point points read others =
    let p = trimmed_parts part in
    let s = entry_sound k (trimmed_text part) point (trimmed_bare part) read in
    let name = text_before equals_sign (trimmed_text part) in
    let text = text_after equals_sign (trimmed_text part) in
    let whole : part ≡ replicate p.0 space ++ (name ++ equals_sign ∷ (text ++ replicate p.1 space)) =
    p.2 ∙ ap (λ (x : List ℕ). replicate p.0 space ++ (x ++ replicate p.1 space)) s.1
    ∙ ap (λ (x : List ℕ). replicate p.0 space ++ x) (append_assoc name (equals_sign ∷ text) (replicate p.1 space)) in (
      SettingGrammar.setting p.0 name text p.1 ∷ others.0,
      (s.0.0, s.0.1, s.0.2, s.0.3, others.1),
      ap (λ (x : List ℕ). x ∷ parts) whole
          ∙ ap (λ (x : List (List ℕ)). (replicate p.0 space ++ (name ++ equals_sign ∷ (text ++ replicate p.1 space))) ∷
          x) others.2,
    )

-- the first entry is kept or not
turn : {P : Type 0} (k : ℕ) (b : Bool) (entry : List ℕ) (others : List (List ℕ)) (points : List Point)
    → (b ≡ true → entries_at k (entry ∷ others) ≡ Ok points → P) → (b ≡ false → entries_at k others ≡ Ok points → P)
    → entries_at k (cond b (entry ∷ others) others) ≡ Ok points → P
turn k true entry others points kept dropped e = kept refl e
turn k false entry others points kept dropped e = dropped refl e

parts_sound : (k : ℕ) (parts : List (List ℕ)) (points : List Point)
    → entries_at k (filter nonempty (map trimmed_text parts)) ≡ Ok points → Written parts points
unfolding entries_at
parts_sound k [] points e = subst (λ (ps : List Point). Written [] ps) (ok_is [] points e) ([], tt, refl)
parts_sound k (part ∷ parts) points e =
    let others = filter nonempty (map trimmed_text parts) in
    turn k (nonempty (trimmed_text part)) (trimmed_text part) others points
    (λ _ read.
    let a = bind_ok (entry_at k (trimmed_text part)) (λ first. entries_at (k + 1) others >>= λ rest. Ok (first ∷ rest))
    points read in
    let b = bind_ok (entries_at (k + 1) others) (λ rest. Ok (a.0 ∷ rest)) points a.2 in
    subst (λ (ps : List Point). Written (part ∷ parts) ps) (ok_is (a.0 ∷ b.0) points b.2)
    (set_written k part parts a.0 b.0 a.1 (parts_sound (k + 1) parts b.0 b.1)))
    (λ empty read. blank_written part parts points empty (parts_sound k parts points read))
    e

-- ---- the whole text

pub setting_sound : (text : List ℕ) (points : List Point) → setting_reading text ≡ Ok points → SpellsSetting text points
unfolding setting_reading entries
setting_sound text points e =
    branch (ltb 65536 (length text)) _ _ _
    (λ _ given. err_is_ok faults.TooLong points given)
    (λ short given.
    let parts = slice_split (λ b. eqb b semicolon) text in
    let w = parts_sound 0 parts points given in
    record {
      short = ltb-false 65536 (length text) short;
      entries = (w.0, w.1, sym (join_with_byte-slice_split semicolon text) ∙ ap (join_with_byte semicolon) w.2);
    })
    e
