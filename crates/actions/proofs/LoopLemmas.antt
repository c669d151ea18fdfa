-- Reading terms one after the other, as a loop does.
use Rattle.std.proofs.Common.{◌≡◌, ℕ, ◌+◌, ◌<◌, ◌≤◌, map, length, get_or, drop, Bor, List, [], ◌∷◌, ◌++◌, Result, Ok, Err, refl, sym, ap, ◌∙◌, append_assoc}
use Rattle.std.proofs.lemmas.List.{append-nil, drop_more, drop_all}
use Rattle.refusals.specs.Refusals.{◌>>=◌, FailsUnless}
use Rattle.refusals.proofs.StepLemmas.{fails_along}
use Rattle.actions.specs.declared.fault.ActionFault.{ActionFault}
use Rattle.actions.specs.Value.{TermValue}
use Rattle.actions.specs.Reading.{is_out_of_memory, term_at, terms_at, trimmed_text}

abbrev Reads : Type 0
Reads = Result (List TermValue) ActionFault

-- what was read before, and what is still read
abbrev pub with_front : List TermValue → Reads → Reads
with_front front read = read >>= λ x. Ok (front ++ x)

regroup : (front : List TermValue) (n : TermValue) (read : Reads)
    → with_front front (read >>= λ x. Ok (n ∷ x)) ≡ with_front (front ++ n ∷ []) read
regroup front n (Ok x) = ap Ok (sym (append_assoc front (n ∷ []) x))
regroup front n (Err f) = refl

pub goes_on : (front : List TermValue) (k : ℕ) (piece : List ℕ) (others : List (List ℕ)) (n : TermValue) (total : Reads)
    → term_at k (trimmed_text piece) ≡ Ok n
    → with_front front (terms_at k (piece ∷ others)) ≡ total →
    with_front (front ++ n ∷ []) (terms_at (k + 1) others) ≡ total
unfolding terms_at
goes_on front k piece others n total h so_far =
    let one : with_front front (terms_at k (piece ∷ others)) ≡ with_front (front ++ n ∷ []) (terms_at (k + 1) others) =
    rw h (regroup front n (terms_at (k + 1) others)) in
    sym one ∙ so_far

stops : (f : ActionFault) (front : List TermValue) (k : ℕ) (piece : List ℕ) (others : List (List ℕ)) (total : Reads)
    → term_at k (trimmed_text piece) ≡ Err f
    → with_front front (terms_at k (piece ∷ others)) ≡ total → total ≡ Err f
unfolding terms_at
stops f front k piece others total h so_far =
    let one : with_front front (terms_at k (piece ∷ others)) ≡ Err f = rw h refl in
    sym so_far ∙ one

pub ends : (e : ActionFault) (front : List TermValue) (k : ℕ) (piece : List ℕ) (others : List (List ℕ)) (total : Reads)
    → FailsUnless is_out_of_memory e (term_at k (trimmed_text piece))
    → with_front front (terms_at k (piece ∷ others)) ≡ total → FailsUnless is_out_of_memory e total
ends e front k piece others total h so_far =
    fails_along is_out_of_memory e (term_at k (trimmed_text piece)) total
    (λ f refused. stops f front k piece others total refused so_far) h

pub is_done : (front : List TermValue) (k : ℕ) (total : Reads) → with_front front (terms_at k []) ≡ total
    → total ≡ Ok front
unfolding terms_at
is_done front k total so_far = sym so_far ∙ ap Ok (append-nil front)

-- ---- the same at the pieces from number i on

abbrev pub texts : List (Bor (List ℕ)) → List (List ℕ)
texts parts = map (λ x. x.now) parts

at_turn : (parts : List (Bor (List ℕ))) (i : ℕ) (d : Bor (List ℕ)) → i < length parts
    → texts (drop i parts) ≡ (get_or parts i d).now ∷ texts (drop (i + 1) parts)
at_turn parts i d lt = ap texts (drop_more parts i d lt)

pub goes_on_at : (front : List TermValue) (parts : List (Bor (List ℕ))) (i : ℕ) (d : Bor (List ℕ)) (n : TermValue)
    (total : Reads)
    → i < length parts → term_at i (trimmed_text (get_or parts i d).now) ≡ Ok n
    → with_front front (terms_at i (texts (drop i parts))) ≡ total
    → with_front (front ++ n ∷ []) (terms_at (i + 1) (texts (drop (i + 1) parts))) ≡ total
goes_on_at front parts i d n total lt h so_far =
    goes_on front i (get_or parts i d).now (texts (drop (i + 1) parts)) n total h
    (ap (λ (x : List (List ℕ)). with_front front (terms_at i x)) (sym (at_turn parts i d lt)) ∙ so_far)

pub ends_at : (e : ActionFault) (front : List TermValue) (parts : List (Bor (List ℕ))) (i : ℕ) (d : Bor (List ℕ))
    (total : Reads)
    → i < length parts → FailsUnless is_out_of_memory e (term_at i (trimmed_text (get_or parts i d).now))
    → with_front front (terms_at i (texts (drop i parts))) ≡ total → FailsUnless is_out_of_memory e total
ends_at e front parts i d total lt h so_far =
    ends e front i (get_or parts i d).now (texts (drop (i + 1) parts)) total h
    (ap (λ (x : List (List ℕ)). with_front front (terms_at i x)) (sym (at_turn parts i d lt)) ∙ so_far)

pub is_done_at : (front : List TermValue) (parts : List (Bor (List ℕ))) (i : ℕ) (total : Reads) → length parts ≤ i
    → with_front front (terms_at i (texts (drop i parts))) ≡ total → total ≡ Ok front
is_done_at front parts i total le so_far =
    is_done front i total
    (ap (λ (x : List (Bor (List ℕ))). with_front front (terms_at i (texts x))) (sym (drop_all i parts le)) ∙ so_far)
