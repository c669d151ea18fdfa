-- Seats, and the receipts of their calls.
use Rattle.std.proofs.Common.{◌≡◌, ℕ, ◌+◌, Bool, List, [], ◌∷◌, ◌++◌, length, ap, arith, refl, subst, sym, ◌∙◌, vec_len}
use Rattle.std.specs.Prelude.{All, map, sum}
use Rattle.std.proofs.lemmas.List.{map-append}
use Rattle.std.proofs.lemmas.List.Elements.{All-cons, All-head, All-nil, All-tail}
use Rattle.std.proofs.lemmas.List.Sums.{sum_by-append}
use Rattle.node_steps.specs.declared.config.Config.{Config}
use Rattle.node_calls.specs.declared.receipt.Receipt.{Receipt}
use Rattle.node_registry.specs.Receipts.{AreGivenSince, seat_after}
use Rattle.node_registry.specs.Seats.{SeatState, calls_from, new_seat}
use Rattle.node_registry.specs.Workers.{AllNumbered, IsDone}
use Rattle.node_registry.specs.declared.workers.Done.{Done}
use Rattle.node_registry.specs.declared.workers.Job.{Job}
use Rattle.node_registry.proofs.SeatReceipts.{after_both, after_calls, given_on}

-- a seat with these receipts has made as many calls
pub seat_calls : (seat : SeatState) (rs : List Receipt) → seat ≡ seat_after new_seat rs → seat.calls ≡ length rs
seat_calls seat rs is =
    let calls : seat.calls ≡ 0 + length rs = ap (λ (s : SeatState). s.calls) is ∙ after_calls new_seat rs in
    omega arith

-- the calls of seats, and of others behind them
pub calls_both : (xs ys : List SeatState) → calls_from (xs ++ ys) ≡ calls_from xs + calls_from ys
calls_both xs ys =
    let calls = λ (s : SeatState). s.calls in
    ap sum (map-append calls xs ys) ∙ sum_by-append (λ n. n) (map calls xs) (map calls ys)

-- workers from seats without a call: each seat has as many calls then as it has receipts
pub each_counted : {L : Type 0} (config : Config) (seed : List ℕ) (says : ℕ → ℕ → Bool → Type 0)
    (hears : ℕ → ℕ → Type 0) (n : ℕ) (jobs : List (Job L)) (dones : List (Done L))
    → AllNumbered (λ n (j : Job L) (d : Done L). IsDone config seed (says n) (hears n) j.seat j.asks.items d) n jobs
    dones → All (λ j. j.seat ≡ new_seat) jobs → All (λ d. d.seat.calls ≡ vec_len d.receipts) dones
each_counted config seed says hears n [] [] h fresh = All-nil _
each_counted config seed says hears n [] (d ∷ ds) h fresh = absurd h
each_counted config seed says hears n (j ∷ js) [] h fresh = absurd h
each_counted config seed says hears n (j ∷ js) (d ∷ ds) h fresh =
    let new : j.seat ≡ new_seat = All-head (λ j. j.seat ≡ new_seat) j js fresh in
    let calls = seat_calls d.seat d.receipts.items (subst (λ was. d.seat ≡ seat_after was d.receipts.items) new h.0.counted) in
    All-cons (λ d. d.seat.calls ≡ vec_len d.receipts) d ds (omega (arith, calls, d.receipts.ok.0))
    (each_counted config seed says hears (n + 1) js ds h.1 (All-tail (λ j. j.seat ≡ new_seat) j js fresh))

-- and its receipts were given since its first call
pub each_given : {L : Type 0} (config : Config) (seed : List ℕ) (says : ℕ → ℕ → Bool → Type 0)
    (hears : ℕ → ℕ → Type 0) (n : ℕ) (jobs : List (Job L)) (dones : List (Done L))
    → AllNumbered (λ n (j : Job L) (d : Done L). IsDone config seed (says n) (hears n) j.seat j.asks.items d) n jobs
    dones → All (λ j. j.seat ≡ new_seat) jobs → All (λ d. AreGivenSince config seed new_seat d.receipts.items) dones
each_given config seed says hears n [] [] h fresh = All-nil _
each_given config seed says hears n [] (d ∷ ds) h fresh = absurd h
each_given config seed says hears n (j ∷ js) [] h fresh = absurd h
each_given config seed says hears n (j ∷ js) (d ∷ ds) h fresh =
    let new : j.seat ≡ new_seat = All-head (λ j. j.seat ≡ new_seat) j js fresh in
    All-cons (λ d. AreGivenSince config seed new_seat d.receipts.items) d ds
    (subst (λ was. AreGivenSince config seed was d.receipts.items) new h.0.given)
    (each_given config seed says hears (n + 1) js ds h.1 (All-tail (λ j. j.seat ≡ new_seat) j js fresh))

-- receipts of a seat, and behind them those of its next calls
pub given_after : (config : Config) (seed : List ℕ) (seat : SeatState) (xs ys new : List Receipt) →
    seat ≡ seat_after new_seat xs → AreGivenSince config seed new_seat xs → AreGivenSince config seed seat ys →
    new ≡ xs ++ ys → AreGivenSince config seed new_seat new
given_after config seed seat xs ys new counted before after is =
    subst (λ l. AreGivenSince config seed new_seat l) (sym is)
    (given_on config seed new_seat xs ys before (subst (λ s. AreGivenSince config seed s ys) counted after))

pub counted_after : (seat now : SeatState) (xs ys new : List Receipt) → seat ≡ seat_after new_seat xs →
    now ≡ seat_after seat ys → new ≡ xs ++ ys → now ≡ seat_after new_seat new
counted_after seat now xs ys new counted more is =
    more
    ∙ ap (λ s. seat_after s ys) counted
    ∙ sym (after_both new_seat xs ys)
    ∙ ap (seat_after new_seat) (sym is)

-- all seats but the last
pub before_last : {A : Type 0} (P : A → Type 0) (xs : List A) (x : A) → All P (xs ++ x ∷ []) → All P xs
before_last P [] x h = All-nil P
before_last P (y ∷ xs) x h =
    All-cons P y xs (All-head P y (xs ++ x ∷ []) h) (before_last P xs x (All-tail P y (xs ++ x ∷ []) h))

pub the_last : {A : Type 0} (P : A → Type 0) (xs : List A) (x : A) → All P (xs ++ x ∷ []) → P x
the_last P [] x h = All-head P x [] h
the_last P (y ∷ xs) x h = the_last P xs x (All-tail P y (xs ++ x ∷ []) h)
