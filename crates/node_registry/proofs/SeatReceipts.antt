-- The receipts of one seat, call by call.
use Rattle.std.proofs.Common.{◌≡◌, ℕ, ◌+◌, List, [], ◌∷◌, ◌++◌, length, refl, sym, ap, ◌∙◌, subst, arith}
use Rattle.node_steps.specs.declared.config.Config.{Config}
use Rattle.node_calls.specs.declared.receipt.Receipt.{Receipt}
use Rattle.node_registry.specs.Receipts.{AreGivenSince, IsGiven, seat_after}
use Rattle.node_registry.specs.Seats.{ComesNext, SeatState, called}

-- a seat after calls, and then more
pub after_both : (was : SeatState) (xs ys : List Receipt) → seat_after was (xs ++ ys) ≡ seat_after (seat_after was xs) ys
after_both was [] ys = refl
after_both was (x ∷ xs) ys = after_both (called was x.index) xs ys

-- it counts them, and handed nothing out
pub after_calls : (was : SeatState) (rs : List Receipt) → (seat_after was rs).calls ≡ was.calls + length rs
after_calls was [] = omega arith
after_calls was (r ∷ rs) = let rest = after_calls (called was r.index) rs in omega arith

pub after_given : (was : SeatState) (rs : List Receipt) → (seat_after was rs).given ≡ was.given
after_given was [] = refl
after_given was (r ∷ rs) = after_given (called was r.index) rs

-- the receipts so far, and those of the next calls
pub given_on : (config : Config) (seed : List ℕ) (was : SeatState) (xs ys : List Receipt) →
    AreGivenSince config seed was xs → AreGivenSince config seed (seat_after was xs) ys →
    AreGivenSince config seed was (xs ++ ys)
given_on config seed was [] ys p q = q
given_on config seed was (x ∷ xs) ys p q = (p.0, p.1, given_on config seed (called was x.index) xs ys p.2 q)

-- one receipt more
pub given_more : (config : Config) (seed : List ℕ) (was seat : SeatState) (rs new : List Receipt) (r : Receipt) →
    AreGivenSince config seed was rs → seat ≡ seat_after was rs → IsGiven config seed r → ComesNext seat r.index →
    new ≡ rs ++ r ∷ [] → AreGivenSince config seed was new
given_more config seed was seat rs new r so_far here given next pushed =
    subst (λ l. AreGivenSince config seed was l) (sym pushed)
    (given_on config seed was rs (r ∷ []) so_far (given, subst (λ s. ComesNext s r.index) here next, tt))

pub after_more : (was seat now : SeatState) (rs new : List Receipt) (r : Receipt) → seat ≡ seat_after was rs →
    now ≡ called seat r.index → new ≡ rs ++ r ∷ [] → now ≡ seat_after was new
after_more was seat now rs new r here counted pushed =
    counted
    ∙ ap (λ (s : SeatState). called s r.index) here
    ∙ sym (after_both was rs (r ∷ []))
    ∙ ap (seat_after was) (sym pushed)
