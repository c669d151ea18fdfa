-- A seat that has made as many calls as there are receipts.
use Rattle.std.proofs.Common.{◌≡◌, ◌∙◌, ℕ, Result, Ok, Err, ap, arith, refl, sym, vec_len}
use Rattle.std.specs.Prelude.{IfOk, Vec}
use Rattle.std.specs.declared.alloc.AllocError.{AllocError}
use Rattle.std.specs.declared.alloc.Global.{Global}
use Rattle.node_calls.specs.declared.receipt.Receipt.{Receipt}
use Rattle.node_registry.specs.Receipts.{seat_after}
use Rattle.node_registry.specs.Seats.{SeatState, new_seat}
use Rattle.thread_workers.proofs.Seats.{seat_calls}
use Rattle.thread_scripts.specs.Gossips.{count_or}

pub counted : (r : Result (Vec Receipt Global) AllocError) (seat : SeatState) →
    IfOk r (λ rs. seat ≡ seat_after new_seat rs.items) → count_or r seat.calls ≡ seat.calls
counted (Ok rs) seat h = let calls = seat_calls seat rs.items h in omega (arith, calls, rs.ok.0)
counted (Err e) seat h = refl

pub counts : (r : Result (Vec Receipt Global) AllocError) (rs : Vec Receipt Global) (calls : ℕ) → count_or r calls ≡ calls
    → r ≡ Ok rs → calls ≡ vec_len rs
counts r rs calls h is = sym h ∙ ap (λ x. count_or x calls) is
