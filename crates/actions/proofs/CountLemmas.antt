-- How many entries a setting text has.
use Rattle.std.proofs.Common.{◌≡◌, ℕ, suc, ◌+◌, ◌*◌, ◌^◌, ◌<◌, ◌≤◌, Bool, eqb, ltb, List, [], ◌∷◌, ◌++◌, length, map, replicate, Ok, ap, ◌∙◌, arith, length-append}
use Rattle.std.specs.List.{filter, slice_split, onto_first}
use Rattle.std.proofs.lemmas.Bool.{cond_both, ltb-true, ltb-false}
use Rattle.actions.specs.declared.fault.SettingFault.TheVariants as faults
use Rattle.actions.specs.Bytes.{semicolon, space}
use Rattle.actions.specs.Reading.{trimmed_text}
use Rattle.refusals.specs.Refusals.{◌>>=◌}
use Rattle.refusals.proofs.StepLemmas.{bind_ok, ok_is, err_is_ok}
use Rattle.actions.specs.SettingReading.{entry_at, entries_at, entries, setting_reading}
use Rattle.actions.proofs.ByteLemmas.{branch}
use Rattle.actions.proofs.TrimLemmas.{trimmed_parts}
use Rattle.actions.proofs.EntryLemmas.{Point, nonempty}

-- each part with one byte for what ends it
abbrev weight : List (List ℕ) → ℕ
weight [] = 0
weight (part ∷ parts) = length part + 1 + weight parts

weight_onto : (b : ℕ) (parts : List (List ℕ)) → 0 < weight parts → weight (onto_first b parts) ≡ weight parts + 1
weight_onto b [] some = absurd (omega arith)
weight_onto b (part ∷ parts) some = omega arith

weight_split : (p : ℕ → Bool) (text : List ℕ) → weight (slice_split p text) ≡ length text + 1
weight_split p [] = omega arith
weight_split p (b ∷ bs) =
    let others = weight_split p bs in
    cond_both (p b) ([] ∷ slice_split p bs) (onto_first b (slice_split p bs))
    (λ (parts : List (List ℕ)). weight parts ≡ length (b ∷ bs) + 1)
    (λ _. omega (arith, others))
    (λ _. omega (arith, others, weight_onto b (slice_split p bs) (omega (arith, others))))

trimmed_no_longer : (part : List ℕ) → length (trimmed_text part) ≤ length part
trimmed_no_longer part =
    let p = trimmed_parts part in
    omega (
      arith,
      ap length p.2,
      length-append (replicate p.0 space) (trimmed_text part ++ replicate p.1 space),
      length-append (trimmed_text part) (replicate p.1 space),
    )

abbrev kept : List (List ℕ) → List (List ℕ)
kept parts = filter nonempty (map trimmed_text parts)

kept_weigh_two : (parts : List (List ℕ)) → 2 * length (kept parts) ≤ weight parts
kept_weigh_two [] = omega arith
kept_weigh_two (part ∷ parts) =
    let others = kept_weigh_two parts in
    cond_both (nonempty (trimmed_text part)) (trimmed_text part ∷ kept parts) (kept parts)
    (λ (x : List (List ℕ)). 2 * length x ≤ length part + 1 + weight parts)
    (λ some. omega (arith, others, ltb-true 0 (length (trimmed_text part)) some, trimmed_no_longer part))
    (λ _. omega (arith, others))

-- each takes a byte and what ends it
pub few_entries : (text : List ℕ) → length text ≤ 65536 → length (entries text) < 2 ^ 16
unfolding entries
few_entries text short =
    omega (
      arith,
      weight_split (λ b. eqb b semicolon) text,
      kept_weigh_two (slice_split (λ b. eqb b semicolon) text),
    )

one_point_each : (k : ℕ) (es : List (List ℕ)) (points : List Point) → entries_at k es ≡ Ok points
    → length es ≡ length points
unfolding entries_at
one_point_each k [] points e = ap length (ok_is [] points e)
one_point_each k (entry ∷ es) points e =
    let a = bind_ok (entry_at k entry) (λ first. entries_at (k + 1) es >>= λ rest. Ok (first ∷ rest)) points e in
    let b = bind_ok (entries_at (k + 1) es) (λ rest. Ok (a.0 ∷ rest)) points a.2 in
    ap suc (one_point_each (k + 1) es b.0 b.1) ∙ ap length (ok_is (a.0 ∷ b.0) points b.2)

pub few_points : (text : List ℕ) (points : List Point) → setting_reading text ≡ Ok points → length points < 2 ^ 16
unfolding setting_reading
few_points text points e =
    branch (ltb 65536 (length text)) _ _ _
    (λ _ given. err_is_ok faults.TooLong points given)
    (λ short given. omega (
      arith,
      few_entries text (ltb-false 65536 (length text) short),
      one_point_each 0 (entries text) points given,
    ))
    e
