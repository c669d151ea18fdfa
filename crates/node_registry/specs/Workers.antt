-- What workers hand back.
use Rattle.std.specs.Prelude.{◌≡◌, ℕ, ◌+◌, Bool, true, false, List, [], ◌∷◌, MatchBool}
use Rattle.node_steps.specs.declared.config.Config.{Config}
use Rattle.node_calls.specs.declared.ask.Ask.{Ask}
use Rattle.node_calls.specs.declared.fault.NodeFault.{NodeFault}
use Rattle.node_calls.specs.declared.receipt.Receipt.{Receipt}
use Rattle.node_calls.specs.Asks.{ask_value_first}
use Rattle.node_registry.specs.Receipts.{AreGivenSince, IsRefused, seat_after}
use Rattle.node_registry.specs.Refusals.{Refusal}
use Rattle.node_registry.specs.Seats.{SeatState}
use Rattle.node_registry.specs.declared.workers.Done.{Done}

-- How asks were answered, the first of which has this number: the gate said that each may be made, and heard that it
-- was answered. One that was accepted has the next receipt; one that was refused has the next fault, with its number,
-- and is the next of the refusals. The last is the last of all, or the gate said that the next may not be made
pub data AreAnswered (config : Config) (seed : List ℕ) (says : ℕ → Bool → Type 0) (hears : ℕ → Type 0)
    : ℕ → List Ask → List Receipt → List (ℕ × NodeFault) → List Refusal → Type 0 where
  ended : {n : ℕ} → AreAnswered config seed says hears n [] [] [] []
  stopped : {n : ℕ} {asks : List Ask} → says n false → AreAnswered config seed says hears n asks [] [] []
  accepted : {n : ℕ} {r : Receipt} {asks : List Ask} {receipts : List Receipt} {faults : List (ℕ × NodeFault)}
      {refusals : List Refusal}
      → says n true → hears n → AreAnswered config seed says hears (n + 1) asks receipts faults refusals
      → AreAnswered config seed says hears n (r.entry.ask ∷ asks) (r ∷ receipts) faults refusals
  refused : {n : ℕ} {ask : Ask} {fault : NodeFault} {asks : List Ask} {receipts : List Receipt}
      {faults : List (ℕ × NodeFault)} {refusals : List Refusal}
      → says n true → hears n → IsRefused config seed (ask_value_first config.nodes ask) fault
      → AreAnswered config seed says hears (n + 1) asks receipts faults refusals
      → AreAnswered config seed says hears n (ask ∷ asks) receipts ((n, fault) ∷ faults) ((ask, fault) ∷ refusals)

-- what a worker hands back that was to make these asks from a seat: the receipts are those of the calls that the seat
-- made since, which the node gave it; these and the faults answer the asks, or the worker didn't start, and there are
-- none
pub record IsDone {L : Type 0} (config : Config) (seed : List ℕ) (says : ℕ → Bool → Type 0) (hears : ℕ → Type 0)
    (was : SeatState) (asks : List Ask)
    (done : Done L) : Type 0 where
  pub counted : done.seat ≡ seat_after was done.receipts.items
  pub given : AreGivenSince config seed was done.receipts.items
  pub answered : MatchBool done.started
      (AreAnswered config seed says hears 0 asks done.receipts.items done.faults.items done.refusals)
      ((done.receipts.items ≡ []) × (done.faults.items ≡ []) × (done.refusals ≡ []))

-- this is so of the elements of two lists that stand beside each other, the first pair of which has this number
abbrev pub AllNumbered : {A B : Type 0} → (ℕ → A → B → Type 0) → ℕ → List A → List B → Type 0
AllNumbered R n [] [] = Unit {0}
AllNumbered R n [] (y ∷ ys) = ⊥
AllNumbered R n (x ∷ xs) [] = ⊥
AllNumbered R n (x ∷ xs) (y ∷ ys) = R n x y × AllNumbered R (n + 1) xs ys
