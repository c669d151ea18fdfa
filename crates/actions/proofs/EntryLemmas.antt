-- Steps of reading entries that did not fail, and reading them one after the other, as a loop does.
use Rattle.std.proofs.Common.{◌≡◌, ℕ, ◌+◌, ◌<◌, ◌≤◌, Bool, ltb, map, length, get_or, drop, Bor, List, [], ◌∷◌, ◌++◌, Result, Ok, Err, refl, sym, ap, ◌∙◌, append_assoc}
use Rattle.std.proofs.lemmas.List.{append-nil, drop_more, drop_all}
use Rattle.refusals.specs.Refusals.{◌>>=◌, FailsUnless}
use Rattle.refusals.proofs.StepLemmas.{ok_is, err_is_ok, fails_along}
use Rattle.actions.specs.declared.fault.ActionFault.{ActionFault}
use Rattle.actions.specs.declared.fault.SettingFault.{SettingFault}
use Rattle.actions.specs.declared.fault.SettingFault.TheVariants as faults
use Rattle.actions.specs.Value.{TermValue}
use Rattle.actions.specs.SettingReading.{is_out_of_memory, terms_read, entry_at, entries_at}

abbrev pub Point : Type 0
Point = List ℕ × List TermValue

abbrev Reads : Type 0
Reads = Result (List Point) SettingFault

-- what is kept of the trimmed parts of a text
abbrev pub nonempty : List ℕ → Bool
nonempty entry = ltb 0 (length entry)

-- ---- steps that did not fail

pub terms_ok : (k : ℕ) (r : Result (List TermValue) ActionFault) (ts : List TermValue) → terms_read k r ≡ Ok ts →
    r ≡ Ok ts
terms_ok k (Ok xs) ts e = ap Ok (ok_is xs ts e)
terms_ok k (Err f) ts e = err_is_ok (faults.BadActions k f) ts e

-- ---- the loop

-- what was read before, and what is still read
abbrev pub with_front : List Point → Reads → Reads
with_front front read = read >>= λ x. Ok (front ++ x)

regroup : (front : List Point) (n : Point) (read : Reads)
    → with_front front (read >>= λ x. Ok (n ∷ x)) ≡ with_front (front ++ n ∷ []) read
regroup front n (Ok x) = ap Ok (sym (append_assoc front (n ∷ []) x))
regroup front n (Err f) = refl

goes_on : (front : List Point) (k : ℕ) (entry : List ℕ) (others : List (List ℕ)) (n : Point) (total : Reads)
    → entry_at k entry ≡ Ok n
    → with_front front (entries_at k (entry ∷ others)) ≡ total →
    with_front (front ++ n ∷ []) (entries_at (k + 1) others) ≡ total
unfolding entries_at
goes_on front k entry others n total h so_far =
    let one : with_front front (entries_at k (entry ∷ others)) ≡ with_front (front ++ n ∷ [])
    (entries_at (k + 1) others) =
    rw h (regroup front n (entries_at (k + 1) others)) in
    sym one ∙ so_far

stops : (f : SettingFault) (front : List Point) (k : ℕ) (entry : List ℕ) (others : List (List ℕ)) (total : Reads)
    → entry_at k entry ≡ Err f
    → with_front front (entries_at k (entry ∷ others)) ≡ total → total ≡ Err f
unfolding entries_at
stops f front k entry others total h so_far =
    let one : with_front front (entries_at k (entry ∷ others)) ≡ Err f = rw h refl in
    sym so_far ∙ one

ends : (e : SettingFault) (front : List Point) (k : ℕ) (entry : List ℕ) (others : List (List ℕ)) (total : Reads)
    → FailsUnless is_out_of_memory e (entry_at k entry) → with_front front (entries_at k (entry ∷ others)) ≡ total →
    FailsUnless is_out_of_memory e total
ends e front k entry others total h so_far =
    fails_along is_out_of_memory e (entry_at k entry) total (λ f refused. stops f front k entry others total refused
    so_far) h

is_done : (front : List Point) (k : ℕ) (total : Reads) → with_front front (entries_at k []) ≡ total
    → total ≡ Ok front
unfolding entries_at
is_done front k total so_far = sym so_far ∙ ap Ok (append-nil front)

-- ---- the same at the entries from number i on

abbrev pub texts : List (Bor (List ℕ)) → List (List ℕ)
texts parts = map (λ x. x.now) parts

at_turn : (parts : List (Bor (List ℕ))) (i : ℕ) (d : Bor (List ℕ)) → i < length parts
    → texts (drop i parts) ≡ (get_or parts i d).now ∷ texts (drop (i + 1) parts)
at_turn parts i d lt = ap texts (drop_more parts i d lt)

pub goes_on_at : (front : List Point) (parts : List (Bor (List ℕ))) (i : ℕ) (d : Bor (List ℕ)) (n : Point)
    (total : Reads)
    → i < length parts → entry_at i (get_or parts i d).now ≡ Ok n
    → with_front front (entries_at i (texts (drop i parts))) ≡ total
    → with_front (front ++ n ∷ []) (entries_at (i + 1) (texts (drop (i + 1) parts))) ≡ total
goes_on_at front parts i d n total lt h so_far =
    goes_on front i (get_or parts i d).now (texts (drop (i + 1) parts)) n total h
    (ap (λ (x : List (List ℕ)). with_front front (entries_at i x)) (sym (at_turn parts i d lt)) ∙ so_far)

pub ends_at : (e : SettingFault) (front : List Point) (parts : List (Bor (List ℕ))) (i : ℕ) (d : Bor (List ℕ))
    (total : Reads)
    → i < length parts → FailsUnless is_out_of_memory e (entry_at i (get_or parts i d).now)
    → with_front front (entries_at i (texts (drop i parts))) ≡ total → FailsUnless is_out_of_memory e total
ends_at e front parts i d total lt h so_far =
    ends e front i (get_or parts i d).now (texts (drop (i + 1) parts)) total h
    (ap (λ (x : List (List ℕ)). with_front front (entries_at i x)) (sym (at_turn parts i d lt)) ∙ so_far)

pub is_done_at : (front : List Point) (parts : List (Bor (List ℕ))) (i : ℕ) (total : Reads) → length parts ≤ i
    → with_front front (entries_at i (texts (drop i parts))) ≡ total → total ≡ Ok front
is_done_at front parts i total le so_far =
    is_done front i total
    (ap (λ (x : List (Bor (List ℕ))). with_front front (entries_at i (texts x))) (sym (drop_all i parts le)) ∙ so_far)
