-- Reading elements one after the other, as a loop does.
use Rattle.std.proofs.Common.{◌≡◌, ℕ, suc, ◌+◌, ◌-◌, ◌<◌, ◌≤◌, length, List, [], ◌∷◌, ◌++◌, map, Bor, Option, Some, None, Result, Ok, Err, refl, sym, ap, ◌∙◌, append_assoc, arith}
use Rattle.std.specs.List.{slice_get}
use Rattle.std.specs.Option.{option_map, option_copied}
use Rattle.std.proofs.lemmas.List.{append-nil, length_push, get_or_push, length-map}
use Rattle.std.proofs.lemmas.Option.{slice_get-get_or, slice_get-map}
use Rattle.message_format.specs.declared.fault.WireFault.{WireFault}
use Rattle.refusals.specs.Refusals.{◌>>=◌}
use Rattle.refusals.proofs.StepLemmas.{fails_along}
use Rattle.message_format.specs.Reading.{Fails, each_at, is_out_of_memory}

-- the last one, if there is one
abbrev pub last_of : {C : Type 0} → List C → Option C
last_of xs = slice_get xs (length xs - 1)

last_of-push : {C : Type 0} (xs : List C) (x : C) → last_of (xs ++ x ∷ []) ≡ Some x
last_of-push xs x =
    let long : length (xs ++ x ∷ []) ≡ length xs + 1 = length_push xs x in
    let i : length (xs ++ x ∷ []) - 1 ≡ length xs = omega (arith, long) in
    let lt : length xs < length (xs ++ x ∷ []) = omega (arith, long) in
    ap (λ (k : ℕ). slice_get (xs ++ x ∷ []) k) i ∙ slice_get-get_or (xs ++ x ∷ []) (length xs) x lt ∙
    ap Some (get_or_push xs x x (length xs) refl)

-- the last of what elements mean
pub last_of-map : {A B : Type 0} (view : A → B) (xs : List A) (found : Option (Bor A)) →
    option_copied found ≡ slice_get xs (length xs - 1)
    → option_map (λ x. view x.now) found ≡ last_of (map view xs)
last_of-map view xs found e =
    let viewed : option_map (λ x. view x.now) found ≡ option_map view (slice_get xs (length xs - 1)) = through found ∙
    ap (option_map view) e in
    viewed ∙ sym (ap (λ (k : ℕ). slice_get (map view xs) (k - 1)) (length-map xs view) ∙
    slice_get-map view xs (length xs - 1))
  where
    through : (o : Option (Bor _)) → option_map (λ x. view x.now) o ≡ option_map view (option_copied o)
    through None = refl
    through (Some x) = refl

-- what was read before, and what is still read
abbrev pub with_front : {C : Type 0} → List C → Result (List C × List ℕ) WireFault → Result (List C × List ℕ) WireFault
with_front front read = read >>= λ x. Ok (front ++ x.0, x.1)

regroup : {C : Type 0} (front : List C) (x : C) (read : Result (List C × List ℕ) WireFault)
    → with_front front (read >>= λ others. Ok (x ∷ others.0, others.1)) ≡ with_front (front ++ x ∷ []) read
regroup front x (Ok others) = ap (λ (xs : List _). Ok (xs, others.1)) (sym (append_assoc front (x ∷ []) others.0))
regroup front x (Err f) = refl

module _ {C : Type 0} (one_at : Option C → List ℕ → Result (C × List ℕ) WireFault) where
  -- the elements before, and those from number i on
  abbrev pub progress : List C → ℕ → ℕ → List ℕ → Result (List C × List ℕ) WireFault
  progress front count i left = with_front front (each_at one_at (count - i) (last_of front) left)

  pub begins : (count : ℕ) (left : List ℕ) → progress [] count 0 left ≡ each_at one_at count None left
  begins count left = ap (λ (k : ℕ). with_front [] (each_at one_at k None left)) (omega arith) ∙
      same (each_at one_at count None left)
    where
      same : (read : Result (List C × List ℕ) WireFault) → with_front [] read ≡ read
      same (Ok x) = refl
      same (Err f) = refl

  pub goes_on : (front : List C) (count i : ℕ) (left : List ℕ) (x : C) (after : List ℕ)
      (total : Result (List C × List ℕ) WireFault) → i < count
      → one_at (last_of front) left ≡ Ok (x, after) → progress front count i left ≡ total →
      progress (front ++ x ∷ []) count (i + 1) after ≡ total
  unfolding each_at
  goes_on front count i left x after total lt h so_far =
      let k : count - i ≡ suc (count - (i + 1)) = omega arith in
      let one : progress front count i left ≡ with_front (front ++ x ∷ [])
      (each_at one_at (count - (i + 1)) (Some x) after) =
      rw (k, h) (regroup front x (each_at one_at (count - (i + 1)) (Some x) after)) in
      rw (last_of-push front x) (sym one ∙ so_far)

  stops : (f : WireFault) (front : List C) (count i : ℕ) (left : List ℕ) (total : Result (List C × List ℕ) WireFault) →
      i < count
      → one_at (last_of front) left ≡ Err f → progress front count i left ≡ total → total ≡ Err f
  unfolding each_at
  stops f front count i left total lt h so_far =
      let k : count - i ≡ suc (count - (i + 1)) = omega arith in
      let one : progress front count i left ≡ Err f = rw (k, h) refl in
      sym so_far ∙ one

  pub ends : (e : WireFault) (front : List C) (count i : ℕ) (left : List ℕ)
      (total : Result (List C × List ℕ) WireFault) → i < count
      → Fails e (one_at (last_of front) left) → progress front count i left ≡ total → Fails e total
  ends e front count i left total lt h so_far =
      fails_along is_out_of_memory e (one_at (last_of front) left) total
      (λ f refused. stops f front count i left total lt refused so_far) h

  pub is_done : (front : List C) (count i : ℕ) (left : List ℕ) (total : Result (List C × List ℕ) WireFault) →
      count ≤ i → progress front count i left ≡ total → total ≡ Ok (front, left)
  unfolding each_at
  is_done front count i left total le so_far =
      let k : count - i ≡ 0 = omega arith in
      let one : progress front count i left ≡ Ok (front, left) =
      rw k (ap (λ (xs : List C). Ok (xs, left)) (append-nil front)) in
      sym so_far ∙ one
